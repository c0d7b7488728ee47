pub mod Player
pub mod Replays
pub mod Exactly
pub mod Shams
