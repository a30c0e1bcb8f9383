pub mod NameLaws
pub mod ArgumentLaws
pub mod LineLaws
pub mod LoadLaws
pub mod TextLaws
