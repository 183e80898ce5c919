pub mod CellLaws
pub mod ItemLaws
pub mod FieldLaws
