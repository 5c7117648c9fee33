pub mod Translated
pub mod TranslateLine
pub mod TranslateSteps
pub mod TranslateMeaning
pub mod TranslateLaws
