pub mod Arrays
pub mod BodyLaws
