pub mod NameLaws
pub mod LimitLaws
pub mod BelowLaws
pub mod ForceLaws
pub mod SplitLaws
pub mod AnswerLaws
