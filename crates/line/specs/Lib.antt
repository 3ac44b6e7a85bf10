-- Document 01 from client bits to the code words of a capture, and back, each layer a function of an index.
pub mod Fec
pub mod Frames
pub mod Slots
pub mod Words
pub mod Captures
