-- A kind that no arm names has no line: 0, and whatever is past the table.
use Rattle.std.proofs.Common.{◌≡◌, ℕ, sym, ◌∙◌, arith}
use Rattle.std.proofs.Math.ListN.{get_or-eq_default}
use native.Mathlib.Decide.{ℕ_discrete}
use Rattle.kinds.specs.Kinds.{row_of, table, none}
use Rattle.kinds.proofs.Ranges.{NoneOf, past}
use Rattle.kinds.proofs.row_of.Goals as goal

no_line : (kind : ℕ) → Dec (kind ≡ 0) → NoneOf 1 23 kind → none ≡ row_of kind
unfolding row_of table
no_line kind (yes e) other = rw e
no_line kind (no e) other = sym (get_or-eq_default table none (past 1 23 kind (omega arith) other))

pub returns-in_default : goal.returns-in_default
returns-in_default c = c.row-in_default.ensures ∙ no_line c.args.kind (ℕ_discrete c.args.kind 0) c.in_default.in_default-own.rest
