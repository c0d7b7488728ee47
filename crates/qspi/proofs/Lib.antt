pub mod Tests
pub mod Filler
pub mod Addresses
pub mod Numbers
pub mod Cases
pub mod Sent
