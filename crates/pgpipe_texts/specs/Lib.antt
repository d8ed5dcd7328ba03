-- What a reader must believe. Of the texts: what each message of the server and each first packet is
-- shown as.
pub mod Backend
pub mod Packet
pub mod Fields
pub mod Words
pub mod Text
-- The JSON object that each is shown as.
pub mod Json
-- Words of private functions, which no public contract cites.
pub mod Private
