pub mod Pieces
pub mod Advance
pub mod Lines
pub mod Printed
pub mod Whole
