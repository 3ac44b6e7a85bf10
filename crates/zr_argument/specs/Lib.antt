-- What the contracts of `zr_argument` are stated in.
pub mod Numbers
