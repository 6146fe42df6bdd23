-- Laws of the walk along a text.
pub mod Standing
pub mod Copying
pub mod Along
pub mod Linking
pub mod Stocks
pub mod Coming
pub mod Gliding
pub mod Advance
