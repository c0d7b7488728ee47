pub mod Statements
pub mod Shams
