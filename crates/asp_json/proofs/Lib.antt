pub mod QuotingLaws
pub mod ListLaws
