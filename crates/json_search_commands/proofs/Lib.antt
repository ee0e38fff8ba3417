mod AsciiLines
mod JsonLines
mod Plain
pub mod FirstJsons
