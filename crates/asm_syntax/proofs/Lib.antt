pub mod FirstFaults
pub mod Tables
