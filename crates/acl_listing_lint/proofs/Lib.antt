pub mod DeletionLemmas
pub mod EffectLemmas
pub mod FoundLemmas
pub mod FromDefaultLemmas
pub mod LintLemmas
