pub mod Alignments
pub mod SigTypes
pub mod SignatureCodes
pub mod Parses
pub mod Laws
