-- Laws of the sheet.
pub mod CheckLaws
pub mod Making
pub mod RecordLaws
pub mod Settled
pub mod TextLaws
