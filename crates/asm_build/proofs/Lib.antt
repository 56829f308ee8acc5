pub mod PlaceLemmas
pub mod NameLemmas
pub mod ListLemmas
pub mod UseLemmas
pub mod LayoutLemmas
pub mod ImageLemmas
pub mod ValueLemmas
pub mod ReadingLemmas
