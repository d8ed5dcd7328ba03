-- How a history begins, goes on and ends.
pub mod Merging
pub mod Lifetime
pub mod Seen
pub mod Unread
