-- The JSON object that a message of the server or a first packet is shown as.
pub mod Backend
pub mod Packet
pub mod Members
pub mod Values
