-- One body more is counted.
use Rattle.std.proofs.Common.{◌≡◌, ℕ, ◌+◌, List, [], ◌∷◌, ◌++◌, sym, ap, ◌∙◌, subst, add-one}
use Rattle.packed.specs.declared.layout.Function.{Function}
use Rattle.packed.specs.Layout.{function_at}
use Rattle.tree.specs.Tree.{bodies, Added}
use Rattle.tree.proofs.Below.{body_below}
use Rattle.tree.proofs.Counting.{added_none, added_then}
use Rattle.tree.proofs.count_bodies.Goals as goal

more : (image : List ℕ) (f : ℕ) (d : Function) (a b c : List ℕ) → d ≡ function_at image f → Added a b (bodies image f) → Added b c (d.body ∷ []) → Added a c (bodies image (f + 1))
unfolding bodies
more image f d a b c e p q =
    subst (Added a c) (ap (λ (m : Function). bodies image f ++ (m.body ∷ [])) e ∙ ap (bodies image) (sym (add-one f))) (added_then p q)

pub loop-f-init : goal.loop-f-init
unfolding bodies
loop-f-init c = (added_none _, added_none _)

pub bump-requires : goal.bump-requires
bump-requires c = (body_below _ _ c.function-d.result c.function-d.ensures, c.loop-f.invariant.0.long ∙ c.requires.0)

pub bump-requires-in-loop-f : goal.bump-requires-in-loop-f
bump-requires-in-loop-f c = (body_below _ _ c.function-d.result c.function-d.ensures, c.loop-f.invariant.1.long ∙ c.requires.1)

pub loop-f-preserved : goal.loop-f-preserved
loop-f-preserved c =
    let i = c.loop-f.invariant in
    let d = c.function-d in (
      more c.args.image.now.bytes.now c.loop-f.f d.result _ _ _ d.ensures i.0 c.bump.ensures,
      more c.args.image.now.bytes.now c.loop-f.f d.result _ _ _ d.ensures i.1 c.bump-in-loop-f.ensures,
    )
