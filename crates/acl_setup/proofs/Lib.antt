pub mod SetupLemmas
pub mod PartsLemmas
pub mod FirstKeyLemmas
pub mod FirstPartLemmas
pub mod OpenedLemmas
