-- Laws that belong to no one function.
pub mod Rows
pub mod Classes
pub mod Signs
pub mod Written
pub mod Steps
pub mod Marks
pub mod Whole
pub mod Unique
pub mod Held
pub mod Eight
