pub mod Places
pub mod FieldLists
