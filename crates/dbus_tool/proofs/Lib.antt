pub mod SameAsked
pub mod SamePrograms
pub mod InputBack
