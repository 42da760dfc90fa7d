pub mod TextSoFar
pub mod Puts
