-- What a reader must believe. Each module says one subject of the rules.
pub mod Expression
pub mod Grammar
pub mod Tree
pub mod Limits
pub mod ReadPattern
pub mod Turns
pub mod Promise
pub mod Desk
pub mod Night
pub mod Sheet
pub mod Readings
pub mod Calls
