pub mod Created
pub mod Next
pub mod NextLine
pub mod NextFields
pub mod NextMeaning
pub mod NextSteps
pub mod NextLaws
pub mod CreateLaws
