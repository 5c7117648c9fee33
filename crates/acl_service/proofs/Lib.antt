pub mod TextLengths
pub mod SessionLemmas
pub mod PrintLemmas
pub mod FileLemmas
pub mod RunLemmas
pub mod StatusLemmas
