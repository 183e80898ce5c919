pub mod OperandLaws
