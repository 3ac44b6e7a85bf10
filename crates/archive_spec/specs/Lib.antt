-- What the contracts of `archive` are stated in: document 02, M-100.
pub mod File
pub mod Write
pub mod Read
pub mod RoundTrip
pub mod Steps
