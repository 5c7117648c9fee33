pub mod AnswerLemmas
pub mod FilledLemmas
pub mod LawLemmas
pub mod PieceLemmas
pub mod PlaceLemmas
pub mod SessionLemmas
