pub mod Flat
pub mod Places
pub mod Texts
pub mod Rows
pub mod Entries
pub mod Built
pub mod Checked
