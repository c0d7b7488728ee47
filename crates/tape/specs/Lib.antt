pub mod Tape
pub mod Record
pub mod Judge
pub mod Records
pub mod Reader
pub mod Statements
pub mod Replaying
pub mod Replay
