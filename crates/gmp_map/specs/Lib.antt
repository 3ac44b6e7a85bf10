-- What the contracts of `gmp_map` are stated in: document 01, "GMP places".
pub mod Groups
pub mod RoundTrip
pub mod Steps
