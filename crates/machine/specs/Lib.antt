pub mod Then
pub mod Shape
pub mod Number
