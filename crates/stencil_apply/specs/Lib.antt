pub mod Table
pub mod Arrays
pub mod Built
pub mod Means
pub mod Laws
