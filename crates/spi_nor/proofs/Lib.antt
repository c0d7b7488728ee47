pub mod WaitTable
pub mod StatusBits
pub mod DeviceBounds
pub mod DatasheetAgrees
pub mod Pieces
