-- What the programs read: the entries of recorded sessions, and how a vector is written.
pub mod Entry
pub mod Vector
