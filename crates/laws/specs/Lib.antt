-- What follows from the definitions.
pub mod Calls
pub mod Digits
pub mod Examples
pub mod Figures
pub mod Grouping
pub mod Nights
pub mod Promises
pub mod Readings
pub mod Room
pub mod SheetFits
pub mod SheetPromise
pub mod Sums
