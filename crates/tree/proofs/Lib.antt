-- The mathematics of the tree part. Each module is one subject.
pub mod Answers
pub mod Settled
pub mod Meaning
pub mod Judging
pub mod Finding
pub mod ClassWords
pub mod Searching
pub mod Lent
