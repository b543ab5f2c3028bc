pub mod NumberTexts
pub mod SoundValues
pub mod OneValue
pub mod Packed
mod Decimals
mod OneByte
mod Bits
mod Narrow
mod Wide
pub mod Going
pub mod Shapes
pub mod MemberNames
pub mod KnownFields
pub mod Objects
pub mod KnownNames
mod FieldValues
pub mod Merging
pub mod Messages
pub mod Placing
mod TokenCounts
mod Told
mod Shown
