pub mod ToJson
pub mod Reading
pub mod FromJson
