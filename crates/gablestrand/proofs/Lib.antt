pub mod Demands
mod RootLaws
mod Clearing
