pub mod HistoryLemmas
pub mod TicketSteps
pub mod SeenSteps
pub mod Steps
pub mod Acts
pub mod Dealing
pub mod AllSeats
pub mod Closing
