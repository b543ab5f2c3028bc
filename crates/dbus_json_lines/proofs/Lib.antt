mod LineFaults
mod Utf8Breaks
