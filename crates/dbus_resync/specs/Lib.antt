pub mod Search
pub mod DamagedInputs
