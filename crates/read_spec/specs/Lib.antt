-- What `read` answers and gives back, and the parts in which the code comes to it.
pub mod Read
pub mod Steps
