-- Laws of the verdict.
pub mod Verdicts
