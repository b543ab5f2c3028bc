pub mod BuildFaults
