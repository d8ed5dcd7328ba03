-- What a reader must believe of scripts: what their answers come to and what is sent for them, and
-- which of them can be played.
pub mod Lists
pub mod OwnError
pub mod Meaning
pub mod Outcome
pub mod Fitting
pub mod Copies
pub mod Replies
pub mod Session
pub mod Opening
pub mod Input
pub mod Check
pub mod Turns
pub mod Laws
-- What `{:?}` writes of a script.
pub mod Shown
-- Words of how messages are written.
pub mod Telling
-- What a reader must believe of the machine: a backend's stage, its histories, and what each call
-- does.
pub mod Stage
pub mod Awaited
pub mod History
pub mod Backend
pub mod Fault
-- What `answer` does over a link, and what becomes of the history of a backend that answers.
pub mod OverLink
pub mod Carried
-- Words of private functions, which no public contract cites.
pub mod Private
