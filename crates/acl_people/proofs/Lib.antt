pub mod LineLemmas
pub mod HostLemmas
pub mod PeopleLemmas
pub mod AskedLemmas
pub mod ElsewhereLemmas
