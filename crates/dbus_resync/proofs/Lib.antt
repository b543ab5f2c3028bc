pub mod Steps
pub mod DamagedLaws
pub mod OneFound
