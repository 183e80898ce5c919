-- A pass through a loop's body. Assumes nothing.
use Prim.Native.Nat.{ℕ}
use mathlib.Core.Path.{◌≡◌, refl}
use mathlib.Core.Logic.{◌⊎◌}
use mathlib.Core.List.{List, []}
use Rattle.packed.specs.declared.layout.Header.{Header}
use Rattle.packed.specs.declared.layout.Node.{Node}
use Rattle.packed.specs.Layout.{node_at}
use Rattle.rules.specs.declared.Value.{Value}
use Rattle.rules.specs.declared.Refusal.TheVariants.{BreakWithValue}
use Rattle.rules.specs.Machine.{turn}
use Rattle.rules.proofs.Moves.{body_done}
use Rattle.rules.proofs.BreakMoves.{break_elsewhere, break_ends, break_with_value}
use Rattle.bindings.specs.Scopes.{broken_out}
use Rattle.stores.specs.Stores.{Fits, Became}
use Rattle.outcomes.specs.declared.Outcome.{Outcome}
use Rattle.outcomes.specs.declared.Outcome.TheVariants.{Done, Broke, Refused}
use Rattle.std.specs.declared.ops.ControlFlow.TheVariants.{Continue, Break}
use Rattle.outcomes.specs.Outcomes.{IsNode}
use Rattle.frames.specs.Loops.{BreakSees, PassGoes}
use Rattle.stores.specs.declared.run.Run.{Run}
use Rattle.outcomes.proofs.Ways.{refused, out_of, became_post}

-- ---- a break that reaches the body of loop n: outer is the loop's node and inner the break's

module _ {image : List ℕ} {h : Header} {n b : ℕ} (v : Value) (scope from : ℕ) {run : Run} {words bytes : List ℕ} (room : Fits run words) (outer inner : Node)
    (of-loop : outer ≡ node_at image h n) (of-break : inner ≡ node_at image h b) where
  pub goes_on : IsNode image h b → (inner.tag ≡ outer.tag → ⊥) → BreakSees image h n b v scope from run words bytes run words bytes (Broke b v)
  goes_on is differ =
      λ d.
      record {
        ways = (record { path = λ K. break_elsewhere (λ e. differ (rw (of-loop, of-break) e)) }, is.first, is.last);
        fits = room;
        room = refl;
      }

  pub refused_value : inner.tag ≡ outer.tag → (inner.a ≡ 0 → ⊥) → (outer.a ≡ 0 → ⊥) → BreakSees image h n b v scope from run words bytes run words bytes (Refused BreakWithValue n)
  refused_value equal valued condition =
      λ d.
      refused (λ K. break_with_value (rw (of-break, of-loop) at equal) (λ e. valued (rw of-break e)) (λ e. condition (rw of-loop e))) room refl

  pub loop_ended : {run' : Run} {words' bytes' : List ℕ} → inner.tag ≡ outer.tag → (inner.a ≡ 0) ⊎ (outer.a ≡ 0) → Became (broken_out scope from) run words bytes run' words' bytes'
      → BreakSees image h n b v scope from run words bytes run' words' bytes' (Done v)
  loop_ended equal bare became =
      λ d. became_post (λ K. break_ends (rw (of-break, of-loop) at equal) (rw (of-break, of-loop) at bare)) became

-- ---- after a pass

module _ {image : List ℕ} {h : Header} (n scope from : ℕ) {run : Run} {words bytes : List ℕ} (one : Outcome) where
  pub pass_done : {v : Value} → one ≡ Done v → Fits run words → PassGoes image h n scope from one run words bytes run words bytes (Continue tt)
  pass_done e room = λ d. rw e (record { ways = record { ways = record { path = λ K. body_done }; fits = room; room = refl } })

  pub pass_broken : {run' : Run} {words' bytes' : List ℕ} {b : ℕ} {v : Value} {r : Outcome} → one ≡ Broke b v → BreakSees image h n b v scope from run words bytes run' words' bytes' r
      → PassGoes image h n scope from one run words bytes run' words' bytes' (Break r)
  pass_broken e seen = λ d. rw e (record { ways = λ first last. out_of (turn n d scope) [] (seen d) })
