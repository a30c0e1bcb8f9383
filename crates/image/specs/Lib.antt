pub mod Decode
pub mod Forms
pub mod Kinds
