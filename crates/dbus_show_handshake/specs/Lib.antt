pub mod ShownHandshakes
pub mod ShownLaws
