pub mod EntryLaws
pub mod EntryCells
