-- What the contracts cite.
pub mod Wrote
pub mod Puts
pub mod Parts
pub mod Desked
