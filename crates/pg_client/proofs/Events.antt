-- What the calls and messages of a session lead to, one after the other.
pub mod Greeting
pub mod OneMessage
pub mod Happening
pub mod Beginnings
pub mod Passwords
