pub mod Translation
pub mod TranslationLaws
pub mod Comparison
pub mod Effects
pub mod Style
pub mod Files
pub mod Lists
