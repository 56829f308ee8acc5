pub mod Printed
pub mod Computer
pub mod Runner
pub mod RunText
pub mod StepText
