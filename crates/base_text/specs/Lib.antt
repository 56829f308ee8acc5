pub mod Bytes
pub mod Hexadecimal
pub mod Latin
