-- What the proofs of the walks share.
pub mod Parts
pub mod Fill
pub mod Nulls
pub mod Firsts
pub mod Written
pub mod Looks
pub mod Entering
pub mod Resuming
pub mod Spines
pub mod Follows
pub mod Rooted
