pub mod MarkLemmas
pub mod FormReads
pub mod MarksAgain
pub mod EntryFields
pub mod FormAgain
pub mod ShortAgain
pub mod FormShapeLemmas
