-- Lemmas of the tests.
pub mod AsciiTexts
