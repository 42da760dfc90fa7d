pub mod View
pub mod Map
pub mod Found
pub mod Is
