pub mod Ring
pub mod Exchange
pub mod Word
