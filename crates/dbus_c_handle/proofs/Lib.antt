pub mod Steps
pub mod LettingGo
