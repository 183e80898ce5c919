-- A count below 255 grows, and one of 255 stays (`added_one`).
use Rattle.std.proofs.Common.{List, ℕ, [], ◌∷◌, ◌<◌, length, get_or, arith, subst}
use borrow.Author.Tests.{lt-ltb, le-ltb}
use Rattle.std.proofs.Math.Seq.{set-get_or}
use Rattle.tree.specs.Tree.{grown, Added}
use Rattle.tree.proofs.Counting.{added_one}
use Rattle.tree.proofs.bump.Goals as goal

pub returns-then-counts-n-lt-MOST_COUNTED : goal.returns-then-counts-n-lt-MOST_COUNTED
unfolding grown
returns-then-counts-n-lt-MOST_COUNTED c =
    let a = c.args in
    let l = a.counts.now in
    let here : a.node < length l = omega arith in
    let more = rw c.from-n.ensures at c.if-counts-n-lt-MOST_COUNTED.true in
    rw c.from-n.ensures (added_one l a.node _ here (rw (lt-ltb _ _ more)))

pub returns-else-counts-n-lt-MOST_COUNTED : goal.returns-else-counts-n-lt-MOST_COUNTED
unfolding grown
returns-else-counts-n-lt-MOST_COUNTED c =
    let a = c.args in
    let l = a.counts.now in
    let here : a.node < length l = omega arith in
    let full = rw c.from-n.ensures at c.if-counts-n-lt-MOST_COUNTED.false in
    subst (λ (m : List ℕ). Added l m (a.node ∷ [])) (set-get_or l a.node 0)
    (added_one l a.node (get_or l a.node 0) here (rw (le-ltb _ _ full)))
