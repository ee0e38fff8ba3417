pub mod SheetOf
pub mod Ascii
pub mod LayoutJson
