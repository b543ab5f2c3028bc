pub mod Builds
pub mod BuildLaws
