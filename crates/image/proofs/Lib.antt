pub mod FitLaws
pub mod FormLaws
pub mod ImageLaws
pub mod RowLaws
