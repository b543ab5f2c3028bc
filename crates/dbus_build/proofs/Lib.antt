pub mod Finding
pub mod SoundParts
pub mod Built
