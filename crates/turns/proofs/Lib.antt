-- Laws of the turn count.
pub mod Counts
pub mod Tokens
