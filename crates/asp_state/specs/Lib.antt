pub mod SearchStates
