pub mod Bodies
pub mod Commands
pub mod Names
