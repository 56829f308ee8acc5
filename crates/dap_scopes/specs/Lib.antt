pub mod Rows
pub mod Stack
pub mod Scopes
pub mod Completions
pub mod Symbols
pub mod Laws
