pub mod Status
pub mod Answers
pub mod Texts
pub mod Names
pub mod Compared
pub mod Created
pub mod Entries
pub mod Deletion
