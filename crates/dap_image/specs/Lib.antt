pub mod Faults
pub mod Outcome
pub mod Images
pub mod ImageValue
pub mod Texts
pub mod Law
