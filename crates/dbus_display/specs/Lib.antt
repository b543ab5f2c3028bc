pub mod FirstAlone
pub mod Written
pub mod WrittenLaws
