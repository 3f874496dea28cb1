pub mod PlaceLaws
pub mod BookLaws
pub mod CallLaws
pub mod DeskLaws
pub mod ReplyLaws
pub mod ListLaws
