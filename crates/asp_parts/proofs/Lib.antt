mod CourseLaws
mod EndLaws
mod FoundLaws
mod PartLaws
mod RoundLaws
mod RunLaws
