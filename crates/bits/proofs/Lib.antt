-- Laws of tests below a bound, of a number's digits, of a word's, of words in a row and of ranges; and of rows that are written over others.
pub mod Tallies
pub mod Digit
pub mod Numbers
pub mod Bits
pub mod Rows
pub mod Ranges
pub mod Writing
