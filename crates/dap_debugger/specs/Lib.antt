pub mod Conversations
pub mod Debuggers
pub mod Given
pub mod KnownFiles
pub mod LaunchTexts
pub mod Requests
pub mod Sending
pub mod Paths
