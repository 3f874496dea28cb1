mod KeptLaws
pub mod TurnLaws
pub mod CloseLaws
pub mod ReportLaws
