pub mod Reading
pub mod ShapeNames
pub mod WholeText
