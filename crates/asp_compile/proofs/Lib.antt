pub mod FormLaws
pub mod KeyLaws
pub mod RuleLaws
pub mod HeadLaws
pub mod NumberedLaws
pub mod NameLaws
pub mod HeldLaws
pub mod BarredLaws
