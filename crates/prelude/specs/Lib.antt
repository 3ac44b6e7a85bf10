-- Lists and loops: what the definitions of every crate above are written with.
pub mod Lists
pub mod Loops
