-- The code's own words. Of the public contracts only those of a keeper cite them.
pub mod Sending
pub mod Hearing
pub mod Calling
pub mod Inside
pub mod Agreeing
