pub mod Then
pub mod Go
pub mod Register
pub mod Protection
pub mod Read
pub mod Write
pub mod Erase
pub mod Opening
