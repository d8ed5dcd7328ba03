-- Beginnings of lists, laws of the definitions, and worked examples.
pub mod Beginnings
pub mod Definitions
pub mod Replying
pub mod Turns
pub mod Examples
-- What the code computes is what the definitions say, and each step carries the history on.
pub mod Machine
pub mod Handling
-- A backend over a link: its turns, what they carry on, and that its log grows.
pub mod Turning
pub mod Carrying
pub mod Growing
