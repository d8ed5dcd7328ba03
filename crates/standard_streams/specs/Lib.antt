-- The look at the standard streams.
pub mod Look
