-- What the contracts cite.
pub mod Suffice
