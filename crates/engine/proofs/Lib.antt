pub mod LookLaws
pub mod RunLaws
