-- The bytes read so far are right, and those left decide the answer.
use Rattle.std.proofs.Common.{◌≡◌, ◌≤◌, ◌+◌, length, drop}
use Rattle.utf8.specs.Utf8.{char_len}
use Rattle.utf8.proofs.Leads.{len_from}
use Rattle.utf8.proofs.char_len.Given as goal

abbrev pub invariant-loop-read : goal.invariant-loop-read
invariant-loop-read l = (l.at + l.read ≤ length l.bytes) × (char_len (drop l.at l.bytes) ≡ len_from l.bytes l.at l.len l.read (l.low, l.high))
