-- Where each symbol of each word stands in a capture, in any order of bytes and in the line's; and eight words as a group.
pub mod Order
pub mod Steps
