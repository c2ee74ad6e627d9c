pub mod Settle
pub mod Rules
