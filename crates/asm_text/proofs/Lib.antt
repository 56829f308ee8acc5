pub mod Conditionals
pub mod Operands
pub mod Texts
