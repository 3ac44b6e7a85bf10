-- The laws of lists, loops, tests and counting, for every crate above.
pub mod Lists
pub mod Tables
pub mod LoopLaws
pub mod Counting
pub mod Common
