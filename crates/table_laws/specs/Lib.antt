pub mod StoredTable
pub mod Verified
pub mod Evaluated
pub mod Applied
