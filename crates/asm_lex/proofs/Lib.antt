pub mod Numerals
pub mod Quotes
pub mod Scan
pub mod Climbs
pub mod Operands
pub mod HexNumerals
