mod Pushing
mod Added
mod RowLaws
mod TableTexts
pub mod OneTable
