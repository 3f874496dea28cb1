pub mod HoldingLaws
pub mod FoundingLaws
