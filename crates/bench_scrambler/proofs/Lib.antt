-- What `bench_scrambler` promises, once.
pub mod Unique
