mod KnownFields
mod Whole
mod Numbered
