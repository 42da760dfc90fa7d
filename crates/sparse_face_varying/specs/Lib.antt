pub mod Chosen
pub mod Steps
