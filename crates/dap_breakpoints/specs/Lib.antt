pub mod Places
pub mod Info
pub mod Data
pub mod Instructions
pub mod Laws
pub mod Arming
pub mod Reports
pub mod Lines
