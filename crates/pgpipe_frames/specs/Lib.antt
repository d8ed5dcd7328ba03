-- What a reader must believe. Of the frames: what a frame is, the frames of a stream, what each call
-- of the reader does, and what is read of a frame by the tables of messages.
pub mod Frames
pub mod Reader
pub mod Reading
pub mod Laws
-- Of their texts: what each frame is shown as. What a message of the server and a first packet of the
-- tables are shown as stands in pgpipe_texts.
pub mod FrameText
pub mod Other
pub mod Frontend
-- The JSON object that each frame is shown as.
pub mod Json
