pub mod SparseLevels
pub mod NextSparse
pub mod Selected
pub mod Written
pub mod Laws
