-- Laws of the tally.
pub mod Adding
pub mod Shorts
pub mod Closings
pub mod Gains
pub mod Steps
pub mod Moves
