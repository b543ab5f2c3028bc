pub mod JsonLines
pub mod LineFaults
pub mod Places
