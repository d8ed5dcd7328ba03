pub mod Judging
mod Packets
pub mod Framing
pub mod Rows
pub mod JsonPlain
pub mod JsonTexts
pub mod JsonRows
