pub mod InState
