pub mod Names
pub mod Input
pub mod HelpOf
pub mod HelpText
pub mod Lint
pub mod Program
