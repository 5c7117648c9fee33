pub mod LetterLemmas
pub mod AlikeLemmas
pub mod QuietLemmas
pub mod PutLemmas
pub mod GroupsLemmas
pub mod ParentLemmas
pub mod DumpLemmas
