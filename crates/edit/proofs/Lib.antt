-- What `edit` promises, once.
pub mod Unique
