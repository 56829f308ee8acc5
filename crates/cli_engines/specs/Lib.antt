pub mod Image
pub mod AsmText
pub mod DisText
