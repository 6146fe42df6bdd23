-- The mathematics of the passes. Each module is one subject.
pub mod Visits
pub mod Words
pub mod Upto
pub mod Preceding
pub mod Memos
pub mod Rests
pub mod Reach
pub mod Marked
pub mod Living
pub mod Longest
