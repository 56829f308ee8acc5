pub mod DebuggerLemmas
pub mod ConversationLemmas
pub mod JsonLemmas
pub mod LaunchLemmas
pub mod SendingLemmas
