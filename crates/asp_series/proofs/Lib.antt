pub mod CoreLaws
pub mod ShrinkLaws
pub mod AskLaws
pub mod QueryLaws
pub mod FindLaws
pub mod SeriesLaws
