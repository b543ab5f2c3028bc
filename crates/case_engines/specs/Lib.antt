pub mod Checkers
