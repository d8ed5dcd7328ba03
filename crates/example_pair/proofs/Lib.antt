-- Lemmas, by the subject.
pub mod Delivered
