pub mod Ready
pub mod GoneLaws
pub mod BackLaws
pub mod JoinLaws
pub mod TeamLaws
pub mod IdleLaws
pub mod RunLaws
