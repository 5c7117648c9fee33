pub mod NumbersLemmas
pub mod TranslatedLemmas
pub mod SameLemmas
pub mod UnchangedLemmas
