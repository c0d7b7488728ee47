pub mod WaitTable
pub mod Saturating
pub mod Geometries
pub mod DatasheetAgrees
pub mod Pieces
