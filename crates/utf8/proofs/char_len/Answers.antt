-- Each byte is tested against its range (`next_read`, `next_wrong`), once the first has told how many there are (`lead_read`).
use Rattle.std.proofs.Common.{◌+◌, ◌∙◌, sym, subst, arith, Option}
use Rattle.std.proofs.Math.ListN.{length-drop}
use Rattle.utf8.specs.declared.Lead.{Lead}
use Rattle.utf8.proofs.Chars.{starts_long}
use Rattle.utf8.proofs.Leads.{Read, lead_read, next_read, next_wrong, all_read}
use Rattle.utf8.proofs.char_len.Goals as goal

pub returns-in_err-len : goal.returns-in_err-len
returns-in_err-len c =
    rw c.from_residual.ensures (subst (λ (l : Option Lead). Read c.args.bytes.now c.args.at l) (sym c.in_err-len.ensures) (lead_read c.args.bytes.now c.args.at c.requires))

pub loop-read-init : goal.loop-read-init
loop-read-init c =
    let first = subst (λ (l : Option Lead). Read c.args.bytes.now c.args.at l) (sym c.in_ok-len.ensures) (lead_read c.args.bytes.now c.args.at c.requires) in
    (omega arith, first.1)

pub returns-then-not-in_range : goal.returns-then-not-in_range
returns-then-not-in_range c = c.loop-read.invariant.1 ∙ next_wrong _ _ _ _ _ c.loop-read-test.true c.if-not-in_range.ensures

pub loop-read-preserved : goal.loop-read-preserved
loop-read-preserved c = (
  omega (arith, starts_long _ _ (sym c.if-not-in_range.ensures), length-drop (c.args.at + c.loop-read.read) c.args.bytes.now),
  c.loop-read.invariant.1 ∙ next_read _ _ _ _ _ c.loop-read-test.true c.if-not-in_range.ensures,
)

pub returns : goal.returns
returns c =
    let first = subst (λ (l : Option Lead). Read c.args.bytes.now c.args.at l) (sym c.in_ok-len.ensures) (lead_read c.args.bytes.now c.args.at c.requires) in
    (sym (c.loop-read.invariant.1 ∙ all_read _ _ _ _ _ c.loop-read-test.false), first.0)
