-- One stream.
pub mod MessageLines
pub mod PacketLines
pub mod Framings
pub mod Decodings
pub mod Runs
pub mod Settling
pub mod Rows
-- The two streams of a connection.
pub mod Readings
pub mod Orders
pub mod Tellings
pub mod Standings
pub mod BothSettling
pub mod OneOrder
pub mod BothRows
-- A summary.
pub mod Counting
pub mod Labels
pub mod CountMaps
pub mod Tables
-- Colours.
pub mod ColorRows
pub mod Escapes
pub mod ColoredLines
pub mod Paints
pub mod ColoredWhole
