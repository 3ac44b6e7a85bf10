-- The equations between the sizes.
pub mod Equations
