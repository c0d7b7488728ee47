pub mod Laws
pub mod Replays
pub mod Exactly
pub mod Hearing
pub mod Following
pub mod Shams
pub mod EveryPart
