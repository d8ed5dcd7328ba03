-- What a reader must believe: what `drive` and `drive_early` do, and what a session does.
pub mod Drive
pub mod Early
pub mod Session
pub mod Lent
pub mod Group
-- What becomes of the history of a client that is driven.
pub mod Carried
-- Words of private functions, which no public contract cites.
pub mod Private
