pub mod FieldTexts
pub mod EscapedText
pub mod EscapedUtf8
pub mod LineFeeds
pub mod VisibleTexts
mod PlainFronts
mod PlainRuns
mod HexBlocks
