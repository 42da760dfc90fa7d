pub mod View
pub mod Shares
pub mod Words
pub mod Header
pub mod Row
pub mod Read
pub mod Rows
