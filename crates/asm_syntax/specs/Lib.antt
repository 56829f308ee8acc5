pub mod Ascii
pub mod Faults
pub mod Lexemes
pub mod Numerals
pub mod Outcome
pub mod Words
