-- What the contracts cite.
pub mod Tally
pub mod Along
