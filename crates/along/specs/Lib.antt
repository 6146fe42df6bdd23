-- What the contracts of the walk along a text cite.
pub mod Rows
pub mod Stand
pub mod Links
pub mod Along
pub mod Glide
pub mod Walk
