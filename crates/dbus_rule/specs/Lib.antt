pub mod Keys
pub mod Values
pub mod Rules
pub mod Faults
pub mod Laws
pub mod PairReadings
pub mod RuleViews
