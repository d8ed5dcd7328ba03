-- The JSON object that each frame is shown as.
pub mod Frame
pub mod Other
pub mod Frontend
