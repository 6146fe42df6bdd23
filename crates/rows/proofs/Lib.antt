-- What the proof of a caller may cite beside the contracts.
pub mod NumberLaws
pub mod FrontLaws
pub mod RowLaws
