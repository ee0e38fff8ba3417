pub mod Tree
pub mod View
pub mod Marks
pub mod Grammar
pub mod Reading
