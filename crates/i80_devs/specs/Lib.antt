pub mod Past
pub mod Presses
pub mod Console
