pub mod Bodies
pub mod Tables
pub mod BackMessages
pub mod FrontMessages
pub mod Lendings
pub mod Startups
