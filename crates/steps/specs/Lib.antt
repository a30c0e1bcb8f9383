pub mod Choices
pub mod Steppable
