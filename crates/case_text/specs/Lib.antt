pub mod Word
pub mod Number
pub mod Line
