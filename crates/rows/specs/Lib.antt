-- What the contracts cite.
pub mod Rows
pub mod Front
