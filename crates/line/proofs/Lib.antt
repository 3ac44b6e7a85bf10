-- The laws of `specs/`.
pub mod FecLaws
pub mod FrameLaws
pub mod SlotLaws
pub mod CaptureLaws
pub mod Unique
