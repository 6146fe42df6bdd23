-- Laws of the reports of a night.
pub mod Going
pub mod Reporting
