mod WalkLemmas
mod RunLaws
