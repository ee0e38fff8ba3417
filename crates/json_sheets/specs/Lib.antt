pub mod Sheet
pub mod SheetText
