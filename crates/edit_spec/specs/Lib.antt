-- What `edit` answers, changes and lists; and the steps on the way there.
pub mod Edit
pub mod Listed
pub mod Steps
