pub mod Then
pub mod Go
pub mod Register
pub mod Cache
pub mod Page
pub mod Read
pub mod Block
pub mod Opening
