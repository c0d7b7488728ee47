pub mod End
pub mod Words
pub mod NorName
pub mod NorSetting
pub mod NandName
pub mod NandSetting
