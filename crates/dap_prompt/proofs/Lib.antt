pub mod PromptLemmas
