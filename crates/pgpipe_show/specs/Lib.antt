-- What a reader must believe. Of one stream: the line of a message, of a first packet and of a frame,
-- and what is shown of it.
pub mod Messages
pub mod Packets
pub mod Way
pub mod FrameLines
pub mod Show
-- Of the two streams of a connection: who has the turn, their lines in their order, and what is
-- printed of them.
pub mod Talk
pub mod Turn
pub mod Entries
pub mod Both
pub mod FramePlace
pub mod Laws
-- Of a summary: what a stream is summed up as.
pub mod Summary
pub mod Labels
pub mod Counts
pub mod Table
-- Of colours: the escapes before each byte, what a line comes to, and what the sink does.
pub mod ColoredPart
pub mod Colored
pub mod ColoredText
-- Words of private functions, which no public contract cites.
pub mod Private
