pub mod Case
pub mod Lent
