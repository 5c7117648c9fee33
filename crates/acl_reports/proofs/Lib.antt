pub mod BlocksLemmas
pub mod ClosingLemmas
pub mod OutputLemmas
pub mod SeenLemmas
pub mod StrangersLemmas
pub mod SightedLemmas
