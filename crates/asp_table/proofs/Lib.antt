pub mod TableLaws
pub mod ColumnLaws
