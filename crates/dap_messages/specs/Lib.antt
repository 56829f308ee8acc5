pub mod Base64
pub mod FileKinds
pub mod Numbering
