-- Laws of rows of nodes.
pub mod NodeLaws
pub mod WordLaws
