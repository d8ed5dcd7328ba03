-- How replies, sessions and inputs grow, message by message.
pub mod DecidedStays
pub mod SessionGrows
pub mod InputGrows
pub mod Terminating
-- One message more: what the definitions of a session say of it.
pub mod ReadOn
pub mod CopyCounted
pub mod MessageSends
pub mod CopyMessageSends
