-- An item judged and left pending, and what is built of all items: each arm as a way of the machine. Assumes nothing.
use Prim.Native.Nat.{ℕ, ◌≤◌, ◌<◌}
use native.Mathlib.Decide.{ℕ_discrete, dec_lt}
use native.Mathlib.Omega.{arith}
use mathlib.Core.Path.{◌≡◌, refl, sym, ap, ◌∙◌}
use mathlib.Core.Bool.{Bool, true, false}
use mathlib.Core.List.{List}
use mathlib.Core.Option.{Option, some, none}
use borrow.Author.Tests.{lt-ltb, le-ltb, eq-eqb, ne_eqb}
use lib.Ieee.{Float}
use lib.ListN.{length}
use Rattle.std.specs.Prelude.{Result, Ok, Err}
use Rattle.std.specs.Result.{MatchResult, IsOkAnd}
use Rattle.packed.specs.declared.layout.Header.{Header}
use Rattle.packed.specs.declared.layout.Node.{Node}
use Rattle.packed.specs.Layout.{node_at}
use Rattle.rules.specs.declared.Value.{Value}
use Rattle.rules.specs.declared.Value.TheVariants.{Vec, Tuple}
use Rattle.rules.specs.declared.Refusal.{Refusal}
use Rattle.rules.specs.declared.Refusal.TheVariants.{Pending}
use Rattle.rules.specs.declared.Refused.{Refused as WasRefused}
use Rattle.rules.specs.Store.{Store, most_pending, pushed, dropped, as_float}
use Rattle.rules.specs.Building.{printed, unprinted}
use Rattle.rules.specs.Machine.{Kind, template, object, kinds, kind_of, items, going, stop, onward}
use Rattle.rules.proofs.Going.{to}
use Rattle.rules.proofs.ItemMoves.{Boxes, vecs as vec_boxes, tuples as tuple_boxes, Accepts, unjudged, prints, item_accepted, too_many_pending, item_unprinted, template_built, items_boxed, entries_boxed}
use Rattle.rules.proofs.BreakMoves.{break_drops}
use Rattle.stores.specs.Stores.{store_of, Fits, Makes, Became, Tried}
use Rattle.stores.specs.Pending.{pushed_if_room}
use Rattle.building.specs.Making.{boxed_by, object_made, template_made, judged_of, items_made}
use Rattle.outcomes.specs.declared.Outcome.{Outcome}
use Rattle.outcomes.specs.declared.Outcome.TheVariants.{Done, Broke, Refused}
use Rattle.std.specs.declared.ops.ControlFlow.{ControlFlow}
use Rattle.std.specs.declared.ops.ControlFlow.TheVariants.{Continue, Break}
use Rattle.outcomes.specs.Outcomes.{got_of}
use Rattle.items.specs.Items.{Judges, ItemEnds, BuiltOf}
use Rattle.items.specs.Items.{Accepts as ItemAccepts}
use Rattle.outcomes.proofs.Ways.{refused, out_of, made_post}
use Rattle.stores.specs.declared.run.Run.{Run}

-- ---- one pending item more, or 512 before it

module _ (v : Value) (σ : Store) where
  room_left : (σ' : Store) → pushed_if_room v σ ≡ some σ' → (length σ.pending < most_pending) × (pushed v σ ≡ σ')
  room_left σ' e = go (dec_lt (length σ.pending) most_pending)
    where
      go : Dec (length σ.pending < most_pending) → (length σ.pending < most_pending) × (pushed v σ ≡ σ')
      go (yes l) = let s : some (pushed v σ) ≡ some σ' = rw (lt-ltb _ _ l) at e in (l, cc)
      go (no l) =
          let s : none ≡ some σ' = rw (le-ltb (length σ.pending) most_pending (omega arith)) at e in
          absurd (cc)

  none_left : pushed_if_room v σ ≡ none → most_pending ≤ length σ.pending
  none_left e = go (dec_lt (length σ.pending) most_pending)
    where
      go : Dec (length σ.pending < most_pending) → most_pending ≤ length σ.pending
      go (yes l) = let s : some (pushed v σ) ≡ none = rw (lt-ltb _ _ l) at e in absurd (cc)
      go (no l) = omega arith

-- ---- what a verdict tells of a component

why_refused : {why : Refusal} (o : Option (List ℕ)) (x : Option Float) → Err why ≡ judged_of o x → (o ≡ none) × (unprinted x ≡ why)
why_refused none x e = (refl, cc)
why_refused (some bytes) x e = absurd (cc)

-- ---- an item's value, and what was judged of it; d is node n

module _ (image : List ℕ) (h : Header) (n : ℕ) (d : Node) (node : d ≡ node_at image h n) {v : Value} {j : Result (Unit {0}) Refusal} (verdict : Judges d.kind v j) where
  in_template : (σ : Store) → (node_at image h n).kind ≡ 6 → j ≡ judged_of (printed image h σ v) (as_float v)
  in_template σ k = rw (node, eq-eqb _ _ k) at (verdict.is image h σ)

  elsewhere : (σ : Store) → ((node_at image h n).kind ≡ 6 → ⊥) → j ≡ Ok tt
  elsewhere σ k = rw (node, ne_eqb _ _ k) at (verdict.is image h σ)

  accepts : (σ : Store) → j ≡ Ok tt → Accepts image h σ n v
  accepts σ e = go (ℕ_discrete (node_at image h n).kind 6)
    where
      seen : (node_at image h n).kind ≡ 6 → (o : Option (List ℕ)) → printed image h σ v ≡ o → j ≡ judged_of o (as_float v) → Accepts image h σ n v
      seen k none p f = absurd (cc)
      seen k (some bytes) p f = prints k p

      go : Dec ((node_at image h n).kind ≡ 6) → Accepts image h σ n v
      go (yes k) = seen k (printed image h σ v) refl (in_template σ k)
      go (no k) = unjudged k

  a_template : {why : Refusal} (σ : Store) → j ≡ Err why → (node_at image h n).kind ≡ 6
  a_template σ e = go (ℕ_discrete (node_at image h n).kind 6)
    where
      go : Dec ((node_at image h n).kind ≡ 6) → (node_at image h n).kind ≡ 6
      go (yes k) = k
      go (no k) = let f = elsewhere σ k in absurd (cc)

  module _ {i : ℕ} {run : Run} {words bytes : List ℕ} where
    pub item_refused : {why : Refusal} → j ≡ Err why → Fits run words → ItemAccepts image h n i v run words bytes run words bytes (Break (Refused why i))
    item_refused e fits depth from =
        let σ = store_of run words bytes in
        let k = a_template σ e in
        let both = why_refused (printed image h σ v) (as_float v) (sym e ∙ in_template σ k) in
        out_of _ _ (refused (λ K. to (item_unprinted k both.0) (ap (λ (w : Refusal). stop w i) both.1)) fits refl)

    module _ {kept : Bool} {run' : Run} {words' bytes' : List ℕ} (e : j ≡ Ok tt) (t : Tried kept (pushed_if_room v) run words bytes run' words' bytes') where
      pub item_pending : kept ≡ true → ItemAccepts image h n i v run words bytes run' words' bytes' (Continue tt)
      unfolding store_of
      item_pending room depth from =
          let σ = store_of run words bytes in
          let both = room_left v σ (store_of run' words' bytes') (rw room at t.did) in
          record {
            ways = record { path = λ K. rw t.kept.takes (to (item_accepted (accepts σ e) both.0) (ap (going (items n (onward image h i) depth from) K) both.1)) };
            fits = t.kept.fits;
            room = t.kept.room;
          }

      pub pending_full : kept ≡ false → ItemAccepts image h n i v run words bytes run' words' bytes' (Break (Refused Pending n))
      pending_full full depth from =
          let σ = store_of run words bytes in
          out_of _ _
          (refused (λ K. rw t.kept.takes (too_many_pending (accepts σ e) (none_left v σ (rw full at t.did)))) t.kept.fits t.kept.room)

-- ---- after an item

module _ {image : List ℕ} {h : Header} {n i from : ℕ} {one : Outcome} {run : Run} {words bytes : List ℕ} {run' : Run} {words' bytes' : List ℕ} where
  pub item_over : {v : Value} {r : ControlFlow Outcome (Unit {0})} → one ≡ Done v → ItemAccepts image h n i v run words bytes run' words' bytes' r
      → ItemEnds image h n i from one run words bytes run' words' bytes' r
  item_over e accepted depth = rw e (record { ways = accepted depth from })

  -- "They are given back when the node ends or a break leaves it"
  pub item_broken : {b : ℕ} {v : Value} → one ≡ Broke b v → Became (dropped from) run words bytes run' words' bytes'
      → ItemEnds image h n i from one run words bytes run' words' bytes' (Break (Broke b v))
  unfolding store_of
  item_broken {b} {v} e x depth =
      rw e (record {
        ways = λ first last.
            out_of _ _
            (record {
              ways = (record { path = λ K. rw (x.store, x.kept.takes) break_drops }, first, last);
              fits = x.kept.fits;
              room = x.kept.room;
            });
      })

-- ---- all items are there; d is node n

module _ {image : List ℕ} {h : Header} {n from : ℕ} {run : Run} {words bytes : List ℕ} {run' : Run} {words' bytes' : List ℕ} {r : Outcome} (d : Node) (node : d ≡ node_at image h n) where
  pub template_done : {got : Result Value WasRefused} → kind_of d.kind ≡ template → Makes got (template_made image h n from) run words bytes run' words' bytes'
      → r ≡ got_of got → BuiltOf image h n from run words bytes run' words' bytes' r
  template_done k made e depth = rw e (made_post (λ K. template_built refl (rw node at k) refl) made)

  box_done : {k : Kind} {box : ℕ → Value} (head : Result ℕ WasRefused) → Boxes k box → kind_of d.kind ≡ k
      → ((box : ℕ → Value) → Makes (boxed_by box head) (items_made box n from) run words bytes run' words' bytes')
      → r ≡ got_of (boxed_by box head) → BuiltOf image h n from run words bytes run' words' bytes' r
  box_done {box = box} head boxes k made e depth = rw e (made_post (λ K. items_boxed refl boxes (rw node at k) refl) (made box))

  pub vec_done : (head : Result ℕ WasRefused) → d.kind ≡ 13 → ((box : ℕ → Value) → Makes (boxed_by box head) (items_made box n from) run words bytes run' words' bytes')
      → r ≡ got_of (boxed_by Vec head) → BuiltOf image h n from run words bytes run' words' bytes' r
  unfolding kind_of kinds
  vec_done head k = box_done head vec_boxes (ap kind_of k)

  pub tuple_done : (head : Result ℕ WasRefused) → d.kind ≡ 14 → ((box : ℕ → Value) → Makes (boxed_by box head) (items_made box n from) run words bytes run' words' bytes')
      → r ≡ got_of (boxed_by Tuple head) → BuiltOf image h n from run words bytes run' words' bytes' r
  unfolding kind_of kinds
  tuple_done head k = box_done head tuple_boxes (ap kind_of k)

  pub object_done : {got : Result Value WasRefused} → kind_of d.kind ≡ object → Makes got (object_made image h n from) run words bytes run' words' bytes'
      → r ≡ got_of got → BuiltOf image h n from run words bytes run' words' bytes' r
  object_done k made e depth = rw e (made_post (λ K. entries_boxed refl (rw node at k) refl) made)

-- a head that is mapped to its box
pub boxed_is : (box : ℕ → Value) (head : Result ℕ WasRefused) (r : Result Value WasRefused) → MatchResult head (λ k. IsOkAnd r (λ v. v ≡ box k)) (λ e. r ≡ Err e) → r ≡ boxed_by box head
boxed_is box (Ok k) (Ok v) m = ap Ok m
boxed_is box (Ok k) (Err e) m = absurd m
boxed_is box (Err e) r m = m
