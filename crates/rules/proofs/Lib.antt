pub mod Going
pub mod Running
pub mod Progress
pub mod Marked
pub mod Moves
pub mod ItemMoves
pub mod BreakMoves
pub mod TextKept
