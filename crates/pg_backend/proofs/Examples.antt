-- What the definitions come to at examples.
pub mod Requests
pub mod Copies
pub mod TurnsTaken
