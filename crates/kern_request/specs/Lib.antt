pub mod MessageTypes
pub mod Requests
