-- The two words of a pending item, by `rec_word`.
use mathlib.Core.Path.{sym, ap, ap₂, ◌∙◌}
use Prim.Native.Nat.{ℕ}
use native.Mathlib.Omega.{arith}
use lib.ListN.{get_or}
use Rattle.slots.specs.Slot.{value_of}
use Rattle.stores.specs.Stores.{pending_in}
use Rattle.stores.proofs.Views.{rec_word}
use Rattle.stores.proofs.pending.pending_at.Goals as goal

pub returns : goal.returns
unfolding pending_in
returns c =
    let l = c.args.words.now in
    let i = c.args.i in
    c.value_of.ensures
    ∙ ap₂ value_of
    (ap (λ (k : ℕ). get_or l k 0) (omega arith) ∙ sym (rec_word 768 2 i 1 l (omega arith)))
    (ap (λ (k : ℕ). get_or l k 0) (omega arith) ∙ sym (rec_word 768 2 i 0 l (omega arith)))
