pub mod RowLaws
pub mod CallLaws
pub mod BareLaws
