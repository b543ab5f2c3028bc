pub mod Numbers
pub mod OwnerWords
pub mod MayDecided
pub mod Selections
pub mod Nothing
pub mod Tells
