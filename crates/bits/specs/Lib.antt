-- Binary digits, words of them in a row, tests of the numbers below a bound; and laws of truth values.
pub mod Bit
pub mod Tally
pub mod Words
pub mod Truth
