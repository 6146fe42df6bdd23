-- What the reader's contracts cite.
pub mod Answers
pub mod Stores
pub mod Letters
pub mod Parts
pub mod Flat
