-- Membership of a set and of a class: what the contracts cite.
pub mod Members
pub mod Classes
