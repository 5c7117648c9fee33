pub mod KnownLemmas
pub mod AnsweredLemmas
pub mod LineLemmas
pub mod ReportLemmas
pub mod BetweenLemmas
pub mod ReachLawLemmas
pub mod CommandLemmas
