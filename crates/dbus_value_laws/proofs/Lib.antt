pub mod KindLaws
pub mod Agreement
pub mod OwnItems
pub mod Composition
pub mod ValueItemLaws
pub mod ReadSteps
pub mod ValueSteps
