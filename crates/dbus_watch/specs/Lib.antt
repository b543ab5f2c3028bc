pub mod Watches
pub mod WatchViews
