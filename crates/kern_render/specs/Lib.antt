pub mod Causes
pub mod Json
pub mod Names
pub mod Rendering
pub mod Drafts
