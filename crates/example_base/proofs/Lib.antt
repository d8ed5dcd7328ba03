-- Lemmas of the driver, by the subject.
pub mod OwnGroup
pub mod Asking
