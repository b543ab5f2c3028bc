pub mod Escapes
pub mod PlainFronts
pub mod Visible
pub mod VisibleLaws
pub mod ShownValues
pub mod ShownMessages
pub mod Gains
pub mod Gaining
