pub mod AskLemmas
pub mod AcesLemmas
pub mod QueryLemmas
pub mod StatusLemmas
pub mod DifferenceLemmas
pub mod ComparedLemmas
pub mod ExclusiveLemmas
pub mod ExplanationLemmas
