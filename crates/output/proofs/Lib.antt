mod Steps
mod Texts
mod Items
mod Entries
mod Whole
