pub mod Inbox
pub mod Lookups
