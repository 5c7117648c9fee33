pub mod Marks
pub mod FormText
pub mod FormShapes
pub mod FormViews
pub mod EntriesFault
pub mod Forms
pub mod PrintedForm
pub mod ShortForm
