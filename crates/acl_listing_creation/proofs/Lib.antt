pub mod FoldersLemmas
pub mod FieldsLemmas
pub mod ModeLemmas
pub mod CreatedLemmas
pub mod AgainLemmas
pub mod CreateLemmas
