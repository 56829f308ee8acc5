pub mod HexLemmas
pub mod StreamLemmas
pub mod Utf8Lemmas
pub mod TextLemmas
