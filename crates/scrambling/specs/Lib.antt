-- What the contracts of `scrambling` are stated in.
pub mod Steps
