-- Lemmas of the rows of any container.
pub mod NoCommonKey
