pub mod Texts
pub mod Rows
pub mod JsonLists
pub mod JsonTexts
pub mod JsonRows
