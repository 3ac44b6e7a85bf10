-- What `code` answers and writes.
pub mod Code
pub mod Steps
