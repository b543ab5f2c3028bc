pub mod Summing
pub mod SumLaws
pub mod Tables
