-- What a body of a capture file is.
pub mod Kinds
