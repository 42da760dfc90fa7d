pub mod Slots
pub mod Parts
pub mod Slotted
pub mod Walked
pub mod HalfTable
