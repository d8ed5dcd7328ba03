-- What is sent is read by a client as it was meant.
pub mod RepliesFit
pub mod SegmentsFitLog
pub mod OneCopyEach
