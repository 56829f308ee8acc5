pub mod AskedLemmas
pub mod HostLemmas
pub mod LeaveLemmas
pub mod SeatLemmas
pub mod SentLemmas
pub mod VisitLemmas
