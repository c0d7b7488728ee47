pub mod Replay
pub mod Program
