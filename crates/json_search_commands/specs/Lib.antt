pub mod FirstJson
