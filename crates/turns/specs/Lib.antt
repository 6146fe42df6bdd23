-- The numbers that an answer stands for, and what the contracts cite.
pub mod Numbers
pub mod Behind
