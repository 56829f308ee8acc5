pub mod PointLemmas
pub mod FindLemmas
pub mod RecountLemmas
pub mod ScanLemmas
pub mod SearchLemmas
