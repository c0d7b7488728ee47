pub mod Print
pub mod Request
pub mod Loan
pub mod Heard
pub mod Place
pub mod Between
pub mod Show
pub mod Budget
