pub mod Lists
pub mod Shapes
pub mod Words
pub mod Trailing
pub mod Plain
pub mod Alike
