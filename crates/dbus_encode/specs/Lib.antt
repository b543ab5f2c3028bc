pub mod FixedBytes
