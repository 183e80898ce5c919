-- A scope and a call left, and a call's body entered. Assumes nothing.
use Prim.Native.Nat.{ℕ, ◌+◌, ◌-◌, ◌≤◌, ◌<◌}
use native.Mathlib.Omega.{arith}
use mathlib.Core.Path.{◌≡◌, refl, sym, ap, ◌∙◌}
use mathlib.Core.Bool.{Bool, true, false, cond}
use mathlib.Core.List.{List, [], ◌∷◌, ◌++◌}
use mathlib.Core.Option.{some, none}
use borrow.Author.Tests.{ltb-true, ltb-false}
use lib.Dec.{ltb}
use lib.ListN.{length, drop, length-drop}
use Rattle.packed.specs.declared.layout.Header.{Header}
use Rattle.packed.specs.declared.layout.Function.{Function}
use Rattle.packed.specs.Layout.{node_at, function_at}
use Rattle.rules.specs.declared.Value.{Value}
use Rattle.rules.specs.declared.Refusal.TheVariants.{Bindings, BreakOutside, ArgumentCount}
use Rattle.rules.specs.Store.{Store, most_bindings, with_floor, with_bindings, opened, arguments}
use Rattle.rules.specs.Machine.{kinds, kind_of, enter, ret, Frame, call_of, going}
use Rattle.rules.specs.Go.{Go}
use Rattle.rules.proofs.Going.{to}
use Rattle.rules.proofs.ItemMoves.{wrong_count, too_many_bound, call_entered}
use Rattle.rules.proofs.BreakMoves.{break_in_call}
use Rattle.stores.specs.Stores.{store_of, takes_of, scope_of, floor_of, pending_of, Fits, Became, Tried}
use Rattle.bindings.specs.Scopes.{arguments_bound}
use Rattle.stores.proofs.PendingLaws.{length-pending}
use Rattle.building.specs.Making.{IsKind}
use Rattle.outcomes.specs.declared.Outcome.{Outcome}
use Rattle.outcomes.specs.declared.Outcome.TheVariants.{Done, Broke, Refused}
use Rattle.std.specs.declared.ops.ControlFlow.TheVariants.{Continue, Break}
use Rattle.outcomes.specs.Post.{After}
use Rattle.stores.specs.declared.run.Run.{Run}
use Rattle.frames.specs.Calls.{CallEnters}
use Rattle.outcomes.proofs.Ways.{refused, out_of, became_post}

-- ---- a value that leaves a scope or a call, and a break that reaches a call

pub value_left : {f : Frame} {g : Store → Store} {run : Run} {words bytes : List ℕ} {run' : Run} {words' bytes' : List ℕ} (one r : Outcome) {v : Value} → one ≡ Done v → r ≡ Done v
    → ((image : List ℕ) (h : Header) (l : ℕ) (K : List Frame) (σ : Store) → Go image h l (going (ret v) (f ∷ K) σ) l (going (ret v) K (g σ)))
    → Became g run words bytes run' words' bytes' → (image : List ℕ) (h : Header) → After image h (f ∷ []) one run words bytes run' words' bytes' r
value_left {run = run} {words = words} {bytes = bytes} one r e o p b =
    λ image h. rw (e, o) (record { ways = became_post (λ K. p image h (takes_of run) K (store_of run words bytes)) b })

pub call_broken : {s f p : ℕ} {run : Run} {words bytes : List ℕ} (one : Outcome) {b : ℕ} {v : Value} → one ≡ Broke b v → Fits run words
    → (image : List ℕ) (h : Header) → After image h (call_of s f p ∷ []) one run words bytes run words bytes (Refused BreakOutside b)
call_broken one e room = λ image h. rw e (record { ways = λ first last. refused (λ K. break_in_call) room refl })

-- ---- the arguments bound, or not

module _ (first from : ℕ) (σ : Store) where
  abbrev bindings : ℕ
  bindings = length σ.bindings + length (drop from σ.pending)

  abbrev within : Store
  within = with_floor (length σ.bindings) (with_bindings (σ.bindings ++ arguments first (drop from σ.pending)) (opened σ))

  full : arguments_bound first from σ ≡ none → most_bindings < bindings
  full e = go (ltb most_bindings bindings) refl e
    where
      go : (b : Bool) → ltb most_bindings bindings ≡ b → cond b none (some within) ≡ none → most_bindings < bindings
      go true over e = ltb-true most_bindings bindings over
      go false over e = cc

  filled : {τ : Store} → arguments_bound first from σ ≡ some τ → (bindings ≤ most_bindings) × (within ≡ τ)
  filled {τ} e = go (ltb most_bindings bindings) refl e
    where
      go : (b : Bool) → ltb most_bindings bindings ≡ b → cond b none (some within) ≡ some τ → (bindings ≤ most_bindings) × (within ≡ τ)
      go true room e = cc
      go false room e = (ltb-false most_bindings bindings room, cc)

-- ---- a call whose arguments are all there: `function` is what it names, and `count` are pending

module _ {image : List ℕ} {h : Header} {n : ℕ} (is : IsKind 16 image h n) {run : Run} {words : List ℕ} (room : Fits run words) (from : ℕ)
    (function : Function) (names : function ≡ function_at image (node_at image h n).tag) (count : ℕ) (counts : count ≡ pending_of run - from) where
  counted : (bytes : List ℕ) → length (drop from (store_of run words bytes).pending) ≡ count
  counted bytes = length-drop from (store_of run words bytes).pending ∙ ap (λ (m : ℕ). m - from) (length-pending run words bytes) ∙ sym counts

  pub wrong_number : {bytes : List ℕ} → (count ≡ function.count → ⊥) → CallEnters image h n from run words bytes run words bytes (Break (Refused ArgumentCount n))
  unfolding kind_of kinds
  wrong_number {bytes} differs =
      λ d.
      out_of _ _
      (refused
      (λ K. wrong_count refl (ap kind_of is.same) (λ e. differs (sym (counted bytes) ∙ e ∙ ap (λ (f : Function). f.count) (sym names))))
      room
      refl)

  module _ (right : count ≡ function.count) {r : Bool} {bytes : List ℕ} {run' : Run} {words' bytes' : List ℕ} (t : Tried r (arguments_bound function.first from) run words bytes run' words' bytes') where
    same : length (drop from (store_of run words bytes).pending) ≡ (function_at image (node_at image h n).tag).count
    same = counted bytes ∙ right ∙ ap (λ (f : Function). f.count) names

    pub not_bound : r ≡ false → CallEnters image h n from run words bytes run' words' bytes' (Break (Refused Bindings n))
    unfolding kind_of kinds
    not_bound fails =
        λ d.
        let over = full function.first from (store_of run words bytes) (t.did ∙ ap (λ (b : Bool). cond b (some (store_of run' words' bytes')) none) fails) in
        out_of _ _
        (refused
        (λ K. rw t.kept.takes (too_many_bound refl (ap kind_of is.same) same (omega (arith, over, same))))
        t.kept.fits
        t.kept.room)

    pub body_begun : r ≡ true → CallEnters image h n from run words bytes run' words' bytes' (Continue tt)
    unfolding kind_of kinds store_of
    body_begun holds =
        λ d.
        let now = filled (function_at image (node_at image h n).tag).first from (store_of run words bytes)
        (ap (λ (f : Function). arguments_bound f.first from (store_of run words bytes)) (sym names) ∙ t.did ∙ ap (λ (b : Bool). cond b (some (store_of run' words' bytes')) none) holds) in
        record {
          ways = record {
            path = λ K.
                rw t.kept.takes
                (to (call_entered refl (ap kind_of is.same) same (omega (arith, now.0, same)))
                (ap (going (enter (function_at image (node_at image h n).tag).body (d + 1)) (call_of (scope_of run) (floor_of run) from ∷ K)) now.1));
          };
          fits = t.kept.fits;
          room = t.kept.room;
        }
