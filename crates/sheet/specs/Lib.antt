-- The numbers that an answer stands for, and what the contracts cite.
pub mod Answers
pub mod Figures
pub mod Checks
