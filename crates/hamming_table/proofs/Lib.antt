-- What lent tables give, for every crate above.
pub mod Tabled
pub mod Doubling
pub mod Unique
