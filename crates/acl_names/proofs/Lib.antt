pub mod Cutting
pub mod ListTextLemmas
pub mod Decimals
pub mod PlainLines
pub mod BitSets
pub mod AnyLemmas
pub mod Counting
pub mod AscendingLemmas
pub mod Keys
pub mod Indexes
pub mod MapLemmas
pub mod DirectoryLemmas
pub mod IdTexts
pub mod Fields
pub mod LettersAgain
pub mod Prefixes
pub mod Pushed
pub mod AscendingSets
pub mod StepLemmas
pub mod ReadListLemmas
mod DigitLemmas
pub mod PlainLists
pub mod PlainJoined
pub mod DecimalIds
mod PlainCounts
pub mod LettersInTurn
pub mod NamesLemmas
pub mod TakeLemmas
