pub mod ConditionLaws
pub mod ShownLaws
pub mod RowLaws
