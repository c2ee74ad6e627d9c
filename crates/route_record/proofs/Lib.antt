pub mod Held
pub mod Relays
pub mod Room
pub mod Storing
pub mod Looked
pub mod Kept
pub mod Fresh
pub mod Among
