-- What the proof of a caller may cite beside the contracts.
pub mod WroteLaws
pub mod DeskLaws
pub mod PutsLaws
pub mod PartsLaws
pub mod AnswerLaws
