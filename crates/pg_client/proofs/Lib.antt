-- Lemmas, by the subject.
pub mod Events
pub mod Standing
pub mod Histories
pub mod Calling
pub mod Hearing
pub mod Keeping
pub mod Turns
pub mod Rows
pub mod ParameterLaws
