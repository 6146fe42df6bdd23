-- What the contracts of the passes cite.
pub mod Masks
pub mod Ways
pub mod Tables
