pub mod Drafts
pub mod Building
