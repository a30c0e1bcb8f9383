pub mod Integers
pub mod LimitLaws
