-- What the proof of a caller may cite beside the contracts.
pub mod SetLaws
pub mod ClassLaws
