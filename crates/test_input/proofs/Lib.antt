-- What coding a room comes to, and that each public contract has one answer.
pub mod Rooms
pub mod Unique
