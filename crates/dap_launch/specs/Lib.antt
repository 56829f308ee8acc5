pub mod Files
pub mod Programs
pub mod Laws
pub mod Loading
pub mod Openings
pub mod Failures
