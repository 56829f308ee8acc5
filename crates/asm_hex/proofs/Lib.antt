pub mod LineLemmas
pub mod RecordLemmas
pub mod ContentsLemmas
pub mod WritingLemmas
pub mod RecordRead
pub mod ReadBack
pub mod CellsLemmas
pub mod ImageRead
