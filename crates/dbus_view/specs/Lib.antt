pub mod Views
pub mod Bodies
