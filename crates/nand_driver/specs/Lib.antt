pub mod Settle
pub mod Call
pub mod Step
pub mod Next
pub mod Wait
