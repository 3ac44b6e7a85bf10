-- What the entry points of captures answer that no other crate defines.
pub mod Part
