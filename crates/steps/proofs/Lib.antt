pub mod Ready
pub mod Steps
pub mod Targets
pub mod Tops
