-- The demands, from the promises; and the starred cases of document 01.
pub mod Flipping
pub mod Facts
pub mod Starred
pub mod Unique
