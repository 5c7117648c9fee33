pub mod LintLine
pub mod Places
pub mod LintText
pub mod SetupPlace
pub mod LintAnswer
pub mod LintLaws
