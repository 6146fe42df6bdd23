-- The numbers that the answers stand for, and what the contracts cite.
pub mod Outcome
pub mod Search
pub mod Judge
pub mod Lending
