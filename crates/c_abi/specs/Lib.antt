-- What the contracts of `c_abi` add to those of the crates it stands on.
pub mod Hosts
