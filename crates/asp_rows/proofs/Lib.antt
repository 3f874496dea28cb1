pub mod AmongLaws
pub mod BitLaws
pub mod DigitLaws
pub mod ListedLaws
pub mod OrderLaws
pub mod PlaceLaws
pub mod RowLaws
pub mod SortLaws
