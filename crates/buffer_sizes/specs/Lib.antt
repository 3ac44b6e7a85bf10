-- The definitions that the contracts of `buffer_sizes` cite.
pub mod Lengths
