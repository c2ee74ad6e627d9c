pub mod Relayed
