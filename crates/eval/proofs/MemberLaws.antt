-- One law for each place of the cycle at which an evaluator calls, turns or returns: its premises are the facts that stand there. Assumes nothing.
use Prim.Native.Nat.{ℕ, ◌+◌, ◌≤◌, ◌<◌}
use native.Mathlib.Omega.{arith}
use mathlib.Core.Path.{◌≡◌, refl, sym, ap, subst, ◌∙◌}
use mathlib.Core.Bool.{Bool, true, false}
use mathlib.Core.Option.{Option, some, none}
use mathlib.Core.List.{List, [], ◌∷◌, ◌++◌}
use native.Mathlib.Decide.{ℕ_discrete}
use borrow.Author.Tests.{eq-eqb, ne_eqb}
use Rattle.packed.specs.declared.layout.Header.{Header}
use Rattle.packed.specs.Layout.{node_at, function_at}
use Rattle.rules.specs.declared.Value.{Value}
use Rattle.rules.specs.declared.Value.TheVariants.{Unit as VUnit}
use Rattle.rules.specs.declared.Refusal.TheVariants.{NotConst, NotBool}
use Rattle.rules.specs.Store.{Store, opened, emptied, closed, as_bool}
use Rattle.rules.specs.Machine.{kind_of, kinds, Ctl, enter, enter_body, work, instructions, items, arms, turn, test, ret}
use Rattle.rules.specs.Machine.{Frame, left_of, right_of, decl_of, set_of, assign_of, break_of, let_of, instruction_of, end_of, item_of, arm_of, condition_of, body_of, call_of, going, stop, onward, item_node}
use Rattle.rules.specs.Go.{Go}
use Rattle.rules.proofs.Going.{stay}
use Rattle.rules.proofs.Moves.{Enters, body, components, elements, members, fields, parameters, left, declaring, setting, assigning, breaking, no_kind, scope_opened, value_entered, bare_break, items_begun, branches_begun, loop_opened, not_const, instruction_entered, instruction_done, last_entered, no_last, arm_tested, arm_told_lem, default_entered, no_default, let_entered, condition_entered, turn_entered, turn_tested, condition_told_lem, right_entered}
use Rattle.rules.proofs.ItemMoves.{text_skipped, item_entered, entry_entered}
use Rattle.stores.specs.Stores.{store_of, takes_of, scope_of, floor_of, pending_of, Fits, Became}
use Rattle.stores.proofs.PendingLaws.{length-pending}
use Rattle.outcomes.specs.declared.Outcome.{Outcome}
use Rattle.outcomes.specs.declared.Outcome.TheVariants.{Done, Broke, Refused, Spent}
use Rattle.std.specs.declared.ops.ControlFlow.{ControlFlow}
use Rattle.std.specs.declared.ops.ControlFlow.TheVariants.{Continue, Break}
use Rattle.outcomes.specs.Post.{Post, Advance, After, AfterOn, Falls}
use Rattle.std.proofs.Common.{Ok}
use Rattle.image.specs.Load.{load_of}
use Rattle.entering.specs.Entering.{HasEntered}
use Rattle.outcomes.specs.Outcomes.{IsNode, IsBreak}
use Rattle.frames.specs.Loops.{told_by, told_of, PassGoes}
use Rattle.items.specs.Items.{ItemEnds}
use Rattle.frames.specs.Calls.{CallEnters}
use Rattle.eval.proofs.Falling.{Past, works, gives, breaks as broke, not_more, came_less, entering_falls}
use Rattle.outcomes.proofs.Ways.{NoValue, all_pass, post_then, advance_then, post_past, valued, of_out, post_after, advance_after, refused}
use Rattle.operands.specs.Waiting.{Single, declares, sets, assigns, breaks, waiting, operand_of}
use Rattle.items.specs.Gathering.{Gathers, built, called, templates, vecs, tuples, objects}
use Rattle.stores.specs.declared.run.Run.{Run}

-- on to a control with frames of its own; it goes on there
abbrev pub Reached : List ℕ → Header → Ctl → List Frame → Run → List ℕ → List ℕ → Ctl → List Frame → Run → List ℕ → List ℕ → Type 0
Reached image h t₀ fs₀ run words bytes t fs run₁ words₁ bytes₁ = Advance image h t₀ fs₀ t fs run words bytes run₁ words₁ bytes₁ (Continue tt)

-- what becomes of an outcome, whatever the image
abbrev EveryAfter : List Frame → Outcome → Run → List ℕ → List ℕ → Run → List ℕ → List ℕ → Outcome → Type 0
EveryAfter fs one run words bytes run₁ words₁ bytes₁ r = (image : List ℕ) (h : Header) → After image h fs one run words bytes run₁ words₁ bytes₁ r

-- ---- ways put together

module _ {image : List ℕ} {h : Header} where
  pub here : {t : Ctl} {fs : List Frame} {run : Run} {words bytes : List ℕ} → Fits run words → Reached image h t fs run words bytes t fs run words bytes
  here fits = record { ways = record { path = λ K. stay }; fits = fits; room = refl }

  module _ {t₀ : Ctl} {fs₀ : List Frame} {run : Run} {words bytes : List ℕ} where
    -- one transition that takes nothing
    pub moves : (t : Ctl) (fs : List Frame) → Fits run words
        → ((K : List Frame) → Go image h (takes_of run) (going t₀ (fs₀ ++ K) (store_of run words bytes)) (takes_of run) (going t (fs ++ K) (store_of run words bytes)))
        → Reached image h t₀ fs₀ run words bytes t fs run words bytes
    moves t fs fits p = record { ways = record { path = p }; fits = fits; room = refl }

    -- to what a function made of the store
    pub became : (t : Ctl) (fs : List Frame) {f : Store → Store} {run₁ : Run} {words₁ bytes₁ : List ℕ}
        → ((K : List Frame) → Go image h (takes_of run) (going t₀ (fs₀ ++ K) (store_of run words bytes)) (takes_of run) (going t (fs ++ K) (f (store_of run words bytes))))
        → Became f run words bytes run₁ words₁ bytes₁ → Reached image h t₀ fs₀ run words bytes t fs run₁ words₁ bytes₁
    became t fs p b = record { ways = record { path = λ K. rw (b.store, b.kept.takes) (p K) }; fits = b.kept.fits; room = b.kept.room }

    module _ {run₁ : Run} {words₁ bytes₁ : List ℕ} {run₂ : Run} {words₂ bytes₂ : List ℕ} where
      pub on_then : {t₁ t : Ctl} {fs₁ fs : List Frame} {r : ControlFlow Outcome (Unit {0})} → Reached image h t₀ fs₀ run words bytes t₁ fs₁ run₁ words₁ bytes₁
          → Advance image h t₁ fs₁ t fs run₁ words₁ bytes₁ run₂ words₂ bytes₂ r → Advance image h t₀ fs₀ t fs run words bytes run₂ words₂ bytes₂ r
      on_then p q = advance_then p.ways p.room q

      pub on_post : {t₁ : Ctl} {fs₁ : List Frame} {r : Outcome} → Reached image h t₀ fs₀ run words bytes t₁ fs₁ run₁ words₁ bytes₁
          → Post image h t₁ fs₁ run₁ words₁ bytes₁ run₂ words₂ bytes₂ r → Post image h t₀ fs₀ run words bytes run₂ words₂ bytes₂ r
      on_post p q = post_then p.ways p.room q

      pub on_past : {t₁ : Ctl} (fs : List Frame) {one : Outcome} → all_pass fs ≡ true → NoValue one → Reached image h t₀ fs₀ run words bytes t₁ fs run₁ words₁ bytes₁
          → Post image h t₁ [] run₁ words₁ bytes₁ run₂ words₂ bytes₂ one → Post image h t₀ fs₀ run words bytes run₂ words₂ bytes₂ one
      on_past fs pass no_value p q = post_past fs pass no_value p.ways p.room q

      pub on_value : {t₁ : Ctl} {fs : List Frame} {one : Outcome} {v : Value} → one ≡ Done v → Reached image h t₀ fs₀ run words bytes t₁ fs run₁ words₁ bytes₁
          → Post image h t₁ [] run₁ words₁ bytes₁ run₂ words₂ bytes₂ one → Reached image h t₀ fs₀ run words bytes (ret v) fs run₂ words₂ bytes₂
      on_value e p q = record { ways = valued e p.ways q; fits = q.fits; room = q.room ∙ p.room }

      module _ {run₃ : Run} {words₃ bytes₃ : List ℕ} {t₁ : Ctl} {fs : List Frame} where
        pub on_after : (one : Outcome) {r : Outcome} → Reached image h t₀ fs₀ run words bytes t₁ fs run₁ words₁ bytes₁
            → Post image h t₁ [] run₁ words₁ bytes₁ run₂ words₂ bytes₂ one → After image h fs one run₂ words₂ bytes₂ run₃ words₃ bytes₃ r
            → Post image h t₀ fs₀ run words bytes run₃ words₃ bytes₃ r
        on_after one p q a = post_after one p.ways p.room q a

        pub on_after_on : (one : Outcome) {t : Ctl} {r : ControlFlow Outcome (Unit {0})} → Reached image h t₀ fs₀ run words bytes t₁ fs run₁ words₁ bytes₁
            → Post image h t₁ [] run₁ words₁ bytes₁ run₂ words₂ bytes₂ one → AfterOn image h fs t one run₂ words₂ bytes₂ run₃ words₃ bytes₃ r
            → Advance image h t₀ fs₀ t [] run words bytes run₃ words₃ bytes₃ r
        on_after_on one p q a = advance_after one p.ways p.room q a

    module _ {run₁ : Run} {words₁ bytes₁ : List ℕ} where
      -- and one transition more
      pub via : {t₁ : Ctl} {fs₁ : List Frame} (t : Ctl) (fs : List Frame) → Reached image h t₀ fs₀ run words bytes t₁ fs₁ run₁ words₁ bytes₁
          → ((K : List Frame) → Go image h (takes_of run₁) (going t₁ (fs₁ ++ K) (store_of run₁ words₁ bytes₁)) (takes_of run₁) (going t (fs ++ K) (store_of run₁ words₁ bytes₁)))
          → Reached image h t₀ fs₀ run words bytes t fs run₁ words₁ bytes₁
      via t fs p q = on_then p (record { ways = record { path = q }; fits = p.fits; room = refl })

      pub on_is : {t : Ctl} {fs : List Frame} {r : ControlFlow Outcome (Unit {0})} → Advance image h t₀ fs₀ t fs run words bytes run₁ words₁ bytes₁ r → r ≡ Continue tt
          → Reached image h t₀ fs₀ run words bytes t fs run₁ words₁ bytes₁
      on_is {t} {fs} a e = subst (Advance image h t₀ fs₀ t fs run words bytes run₁ words₁ bytes₁) e a

      pub out_is : {t : Ctl} {fs : List Frame} {r : ControlFlow Outcome (Unit {0})} {x : Outcome} → Advance image h t₀ fs₀ t fs run words bytes run₁ words₁ bytes₁ r → r ≡ Break x
          → Post image h t₀ fs₀ run words bytes run₁ words₁ bytes₁ x
      out_is {t} {fs} a e = of_out (subst (Advance image h t₀ fs₀ t fs run words bytes run₁ words₁ bytes₁) e a)

      pub value_is : {v : Value} → Reached image h t₀ fs₀ run words bytes (ret v) [] run₁ words₁ bytes₁ → Post image h t₀ fs₀ run words bytes run₁ words₁ bytes₁ (Done v)
      value_is p = record { ways = p.ways; fits = p.fits; room = p.room }

      pub no_more : {t : Ctl} {fs : List Frame} → Reached image h t₀ fs₀ run words bytes t fs run₁ words₁ bytes₁ → takes_of run₁ ≤ takes_of run
      no_more p = came_less p.ways

      pub entered_falls : {t : Ctl} {fs : List Frame} {n d : ℕ} → Enters t₀ n d → Past t → Reached image h t₀ fs₀ run words bytes t fs run₁ words₁ bytes₁
          → takes_of run₁ < takes_of run
      entered_falls enters past p = entering_falls enters past p.ways

-- ---- the members

module _ {image : List ℕ} {h : Header} where
  -- ---- entering

  module _ {t₀ : Ctl} {n d : ℕ} {run : Run} {words bytes : List ℕ} {run₁ : Run} {words₁ bytes₁ : List ℕ} {x : ControlFlow Outcome (Unit {0})}
      (en : HasEntered image h t₀ n d run words bytes run₁ words₁ bytes₁ x) where
    pub entered_post : {run₂ : Run} {words₂ bytes₂ : List ℕ} {r : Outcome} → x ≡ Continue tt
        → Post image h (work n d) [] run₁ words₁ bytes₁ run₂ words₂ bytes₂ r → Post image h t₀ [] run words bytes run₂ words₂ bytes₂ r
    entered_post e q = on_post (on_is en.advance e) q

    pub entered_out : {r : Outcome} → x ≡ Break r → Post image h t₀ [] run words bytes run₁ words₁ bytes₁ r
    entered_out e = out_is en.advance e

    pub entered_less : Enters t₀ n d → x ≡ Continue tt → takes_of run₁ < takes_of run
    entered_less enters e = entered_falls enters works (on_is en.advance e)

  -- ---- scopes

  module _ {n d s : ℕ} {run : Run} {words bytes : List ℕ} {run₁ : Run} {words₁ bytes₁ : List ℕ} where
    pub scope_begun : {i : ℕ} → (node_at image h n).kind ≡ 1 → i ≡ (node_at image h n).a → s ≡ scope_of run → Became opened run words bytes run₁ words₁ bytes₁
        → Reached image h (work n d) [] run words bytes (instructions n i d s) [] run₁ words₁ bytes₁
    unfolding store_of kind_of kinds
    scope_begun {i} k ie e b = became (instructions n i d s) [] (λ K. rw (ie, e) (scope_opened (ap kind_of k))) b

    pub scope_unit : (node_at image h n).b ≡ 0 → Became (closed s) run words bytes run₁ words₁ bytes₁
        → Post image h (instructions n 0 d s) [] run words bytes run₁ words₁ bytes₁ (Done VUnit)
    scope_unit unit b = value_is (became (ret VUnit) [] (λ K. no_last refl unit) b)

  module _ {t₀ : Ctl} {fs₀ : List Frame} {run : Run} {words bytes : List ℕ} {run₁ : Run} {words₁ bytes₁ : List ℕ} {run₂ : Run} {words₂ bytes₂ : List ℕ} {n i d s : ℕ} {one : Outcome}
      (way : Reached image h t₀ fs₀ run words bytes (instructions n i d s) [] run₁ words₁ bytes₁) (more : i ≡ 0 → ⊥)
      (q : Post image h (enter i (d + 1)) [] run₁ words₁ bytes₁ run₂ words₂ bytes₂ one) where
    abbrev frame : List Frame
    frame = instruction_of n (onward image h i) d s ∷ []

    pub instruction_past : NoValue one → Post image h t₀ fs₀ run words bytes run₂ words₂ bytes₂ one
    instruction_past no_value = on_past frame refl no_value (via (enter i (d + 1)) frame way (λ K. instruction_entered more)) q

    pub instruction_next : {v : Value} → one ≡ Done v
        → Reached image h t₀ fs₀ run words bytes (instructions n (onward image h i) d s) [] run₂ words₂ bytes₂
    instruction_next e =
        via (instructions n (onward image h i) d s) [] (on_value e (via (enter i (d + 1)) frame way (λ K. instruction_entered more)) q) (λ K. instruction_done)

  module _ {n d s : ℕ} {run : Run} {words bytes : List ℕ} {run₁ : Run} {words₁ bytes₁ : List ℕ} {run₂ : Run} {words₂ bytes₂ : List ℕ} where
    pub scope_last : (m : ℕ) (one : Outcome) {r : Outcome} → m ≡ (node_at image h n).b → (m ≡ 0 → ⊥) → Fits run words
        → Post image h (enter m (d + 1)) [] run words bytes run₁ words₁ bytes₁ one
        → EveryAfter (end_of s ∷ []) one run₁ words₁ bytes₁ run₂ words₂ bytes₂ r → Post image h (instructions n 0 d s) [] run words bytes run₂ words₂ bytes₂ r
    scope_last m one e last fits q a =
        on_after one (moves (enter m (d + 1)) (end_of s ∷ []) fits (λ K. rw e (last_entered refl (λ z. last (e ∙ z))))) q (a image h)

    pub taken_done : (one : Outcome) {r : Outcome} → Fits run words → Post image h (enter_body n d) [] run words bytes run₁ words₁ bytes₁ one
        → EveryAfter (end_of s ∷ []) one run₁ words₁ bytes₁ run₂ words₂ bytes₂ r → Post image h (enter_body n d) (end_of s ∷ []) run words bytes run₂ words₂ bytes₂ r
    taken_done one fits q a = on_after one (here fits) q (a image h)

  -- ---- binary

  module _ {n d m : ℕ} {run : Run} {words bytes : List ℕ} {run₁ : Run} {words₁ bytes₁ : List ℕ} {one : Outcome} (k : (node_at image h n).kind ≡ 2) (e : m ≡ (node_at image h n).a)
      (fits : Fits run words) (q : Post image h (enter m (d + 1)) [] run words bytes run₁ words₁ bytes₁ one) where
    left_way : Reached image h (work n d) [] run words bytes (enter m (d + 1)) (left_of n d ∷ []) run words bytes
    unfolding kind_of kinds
    left_way = moves (enter m (d + 1)) (left_of n d ∷ []) fits (λ K. rw e (value_entered left (ap kind_of k)))

    pub left_past : NoValue one → Post image h (work n d) [] run words bytes run₁ words₁ bytes₁ one
    left_past no_value = on_past (left_of n d ∷ []) refl no_value left_way q

    pub right_done : {m₂ : ℕ} {run₂ : Run} {words₂ bytes₂ : List ℕ} {run₃ : Run} {words₃ bytes₃ : List ℕ} {u : Value} (two : Outcome) {r : Outcome} → one ≡ Done u → m₂ ≡ (node_at image h n).b
        → Post image h (enter m₂ (d + 1)) [] run₁ words₁ bytes₁ run₂ words₂ bytes₂ two → After image h (right_of n u ∷ []) two run₂ words₂ bytes₂ run₃ words₃ bytes₃ r
        → Post image h (work n d) [] run words bytes run₃ words₃ bytes₃ r
    right_done {m₂} {u = u} two done e₂ q₂ a =
        on_after two (via (enter m₂ (d + 1)) (right_of n u ∷ []) (on_value done left_way q) (λ K. rw e₂ right_entered)) q₂ a

  -- ---- one operand

  module _ {n d : ℕ} {run : Run} {words bytes : List ℕ} (fits : Fits run words) where
    operand_way : {k : ℕ} (m : ℕ) → (node_at image h n).kind ≡ k → Single k → m ≡ operand_of (kind_of k) (node_at image h n) → (m ≡ 0 → ⊥)
        → Reached image h (work n d) [] run words bytes (enter m (d + 1)) (waiting (kind_of k) n) run words bytes
    unfolding kind_of kinds
    operand_way m k declares e nonzero = moves (enter m (d + 1)) (decl_of n ∷ []) fits (λ K. rw e (value_entered declaring (ap kind_of k)))
    operand_way m k sets e nonzero = moves (enter m (d + 1)) (set_of n ∷ []) fits (λ K. rw e (value_entered setting (ap kind_of k)))
    operand_way m k assigns e nonzero = moves (enter m (d + 1)) (assign_of n ∷ []) fits (λ K. rw e (value_entered assigning (ap kind_of k)))
    operand_way m k breaks e nonzero =
        moves (enter m (d + 1)) (break_of n ∷ []) fits (λ K. rw e (value_entered (breaking (λ z. nonzero (e ∙ z))) (ap kind_of k)))

    pub operand_done : {m : ℕ} {run₁ : Run} {words₁ bytes₁ : List ℕ} {run₂ : Run} {words₂ bytes₂ : List ℕ} (one : Outcome) {r : Outcome} → Single (node_at image h n).kind
        → m ≡ operand_of (kind_of (node_at image h n).kind) (node_at image h n) → (m ≡ 0 → ⊥) → Post image h (enter m (d + 1)) [] run words bytes run₁ words₁ bytes₁ one
        → After image h (waiting (kind_of (node_at image h n).kind) n) one run₁ words₁ bytes₁ run₂ words₂ bytes₂ r
        → Post image h (work n d) [] run words bytes run₂ words₂ bytes₂ r
    operand_done {m} one single e nonzero q a = on_after one (operand_way m refl single e nonzero) q a

  -- ---- items: vec, tuple, object, template and call

  module _ {n d p : ℕ} {run : Run} {words bytes : List ℕ} (fits : Fits run words) (e : p ≡ pending_of run) where
    items_by : {k : ℕ} → (node_at image h n).kind ≡ k → Gathers k → Reached image h (work n d) [] run words bytes (items n (node_at image h n).a d p) [] run words bytes
    unfolding kind_of kinds
    items_by k (built templates) =
        moves (items n (node_at image h n).a d p) [] fits (λ K. rw (e ∙ sym (length-pending run words bytes)) (items_begun components (ap kind_of k)))
    items_by k (built vecs) =
        moves (items n (node_at image h n).a d p) [] fits (λ K. rw (e ∙ sym (length-pending run words bytes)) (items_begun elements (ap kind_of k)))
    items_by k (built tuples) =
        moves (items n (node_at image h n).a d p) [] fits (λ K. rw (e ∙ sym (length-pending run words bytes)) (items_begun members (ap kind_of k)))
    items_by k (built objects) =
        moves (items n (node_at image h n).a d p) [] fits (λ K. rw (e ∙ sym (length-pending run words bytes)) (items_begun fields (ap kind_of k)))
    items_by k called =
        moves (items n (node_at image h n).a d p) [] fits (λ K. rw (e ∙ sym (length-pending run words bytes)) (items_begun parameters (ap kind_of k)))

    pub items_way : Gathers (node_at image h n).kind → Reached image h (work n d) [] run words bytes (items n (node_at image h n).a d p) [] run words bytes
    items_way g = items_by refl g

  pub items_start : {n i d p : ℕ} {run : Run} {words bytes : List ℕ} → Fits run words → i ≡ (node_at image h n).a
      → Reached image h (items n (node_at image h n).a d p) [] run words bytes (items n i d p) [] run words bytes
  items_start fits e = rw e (here fits)

  module _ {n i d p : ℕ} {run : Run} {words bytes : List ℕ} (more : i ≡ 0 → ⊥) (fits : Fits run words) where
    pub item_skipped : (node_at image h i).kind ≡ 17 → Reached image h (items n i d p) [] run words bytes (items n (onward image h i) d p) [] run words bytes
    item_skipped k = moves (items n (onward image h i) d p) [] fits (λ K. text_skipped more k)

    item_way : (m : ℕ) → ((node_at image h i).kind ≡ 17 → ⊥) → m ≡ item_node image h n i
        → Reached image h (items n i d p) [] run words bytes (enter m (d + 1)) (item_of n i d p ∷ []) run words bytes
    item_way m k e = go (ℕ_discrete (node_at image h n).kind 15)
      where
        go : Dec ((node_at image h n).kind ≡ 15) → Reached image h (items n i d p) [] run words bytes (enter m (d + 1)) (item_of n i d p ∷ []) run words bytes
        go (yes object) =
            let entry : m ≡ (node_at image h i).b = e ∙ rw (eq-eqb (node_at image h n).kind 15 object) refl in
            moves (enter m (d + 1)) (item_of n i d p ∷ []) fits (λ K. rw entry (entry_entered more k object))
        go (no other) =
            let itself : m ≡ i = e ∙ rw (ne_eqb (node_at image h n).kind 15 other) refl in
            moves (enter m (d + 1)) (item_of n i d p ∷ []) fits (λ K. rw itself (item_entered more k other))

    pub item_done : {m : ℕ} {run₁ : Run} {words₁ bytes₁ : List ℕ} {run₂ : Run} {words₂ bytes₂ : List ℕ} (one : Outcome) {r : ControlFlow Outcome (Unit {0})} → ((node_at image h i).kind ≡ 17 → ⊥) → m ≡ item_node image h n i
        → Post image h (enter m (d + 1)) [] run words bytes run₁ words₁ bytes₁ one → ItemEnds image h n i p one run₁ words₁ bytes₁ run₂ words₂ bytes₂ r
        → Advance image h (items n i d p) [] (items n (onward image h i) d p) [] run words bytes run₂ words₂ bytes₂ r
    item_done {m} one k e q a = on_after_on one (item_way m k e) q (a d)

  -- ---- calls

  module _ {n d p : ℕ} {run : Run} {words bytes : List ℕ} {run₁ : Run} {words₁ bytes₁ : List ℕ} {x : ControlFlow Outcome (Unit {0})}
      (en : CallEnters image h n p run words bytes run₁ words₁ bytes₁ x) where
    pub call_refused : {r : Outcome} → x ≡ Break r → Post image h (items n 0 d p) [] run words bytes run₁ words₁ bytes₁ r
    call_refused e = out_is (en d) e

    pub call_done : {m s f : ℕ} {run₂ : Run} {words₂ bytes₂ : List ℕ} {run₃ : Run} {words₃ bytes₃ : List ℕ} (one : Outcome) {r : Outcome} → x ≡ Continue tt → m ≡ (function_at image (node_at image h n).tag).body
        → s ≡ scope_of run → f ≡ floor_of run → Post image h (enter m (d + 1)) [] run₁ words₁ bytes₁ run₂ words₂ bytes₂ one
        → EveryAfter (call_of s f p ∷ []) one run₂ words₂ bytes₂ run₃ words₃ bytes₃ r → Post image h (items n 0 d p) [] run words bytes run₃ words₃ bytes₃ r
    call_done {m} {s} {f} one e me se fe q a =
        let way : Reached image h (items n 0 d p) [] run words bytes (enter m (d + 1)) (call_of s f p ∷ []) run₁ words₁ bytes₁ = rw (me, se, fe) (on_is (en d) e) in
        on_after one way q (a image h)

  -- ---- conditions

  module _ {c d : ℕ} {run : Run} {words bytes : List ℕ} {run₁ : Run} {words₁ bytes₁ : List ℕ} (fits : Fits run words) where
    pub condition_done : {r : Outcome} → ((node_at image h c).kind ≡ 20 → ⊥) → Post image h (enter c (d + 1)) [] run words bytes run₁ words₁ bytes₁ r
        → Post image h (test c d) [] run words bytes run₁ words₁ bytes₁ r
    condition_done k q = on_post (moves (enter c (d + 1)) [] fits (λ K. condition_entered k)) q

    pub let_done : {m : ℕ} {run₂ : Run} {words₂ bytes₂ : List ℕ} (one : Outcome) {r : Outcome} → (node_at image h c).kind ≡ 20 → m ≡ (node_at image h c).a
        → Post image h (enter m (d + 1)) [] run words bytes run₁ words₁ bytes₁ one → After image h (let_of c ∷ []) one run₁ words₁ bytes₁ run₂ words₂ bytes₂ r
        → Post image h (test c d) [] run words bytes run₂ words₂ bytes₂ r
    let_done {m} one k e q a = on_after one (moves (enter m (d + 1)) (let_of c ∷ []) fits (λ K. rw e (let_entered k))) q a

-- ---- what a condition told

told_by_lem : (c : ℕ) (holds b : Bool) (x : Option Bool) → told_by c x ≡ Continue holds → holds ≡ b → x ≡ some b
told_by_lem c holds b none e k = cc
told_by_lem c holds b (some x) e k = cc

-- a condition that tells has a value
told_value : (c : ℕ) (holds b : Bool) (one : Outcome) → told_of c one ≡ Continue holds → holds ≡ b → (v : Value) × (one ≡ Done v) × (as_bool v ≡ some b)
told_value c holds b (Done v) e k = (v, refl, told_by_lem c holds b (as_bool v) e k)
told_value c holds b (Broke x v) e k = cc
told_value c holds b (Refused why place) e k = cc
told_value c holds b (Spent place) e k = cc

module _ {image : List ℕ} {h : Header} {t₀ : Ctl} {fs₀ : List Frame} {run : Run} {words bytes : List ℕ} {run₁ : Run} {words₁ bytes₁ : List ℕ} {run₂ : Run} {words₂ bytes₂ : List ℕ} {c d : ℕ} where
  -- one that is out: no bool, or no value
  told_out : (fs : List Frame) (one : Outcome) {r : Outcome} → all_pass fs ≡ true → told_of c one ≡ Break r
      → Reached image h t₀ fs₀ run words bytes (test c d) fs run₁ words₁ bytes₁ → Post image h (test c d) [] run₁ words₁ bytes₁ run₂ words₂ bytes₂ one
      → ((v : Value) → as_bool v ≡ none → (K : List Frame) → Go image h (takes_of run₂) (going (ret v) (fs ++ K) (store_of run₂ words₂ bytes₂)) (takes_of run₂) (stop NotBool c))
      → Post image h t₀ fs₀ run words bytes run₂ words₂ bytes₂ r
  told_out fs (Done v) {r} pass e p q k = go (as_bool v) refl e
    where
      go : (x : Option Bool) → as_bool v ≡ x → told_by c x ≡ Break r → Post image h t₀ fs₀ run words bytes run₂ words₂ bytes₂ r
      go none z y =
          let is : ◌≡◌ {A = Outcome} (Refused NotBool c) r = cc in
          subst (Post image h t₀ fs₀ run words bytes run₂ words₂ bytes₂) is (on_post (on_value refl p q) (refused (k v z) q.fits refl))
      go (some x) z y = cc
  told_out fs (Broke b v) {r} pass e p q k =
      let is : ◌≡◌ {A = Outcome} (Broke b v) r = cc in
      subst (Post image h t₀ fs₀ run words bytes run₂ words₂ bytes₂) is (on_past fs pass (λ x z. cc) p q)
  told_out fs (Refused why place) {r} pass e p q k =
      let is : ◌≡◌ {A = Outcome} (Refused why place) r = cc in
      subst (Post image h t₀ fs₀ run words bytes run₂ words₂ bytes₂) is (on_past fs pass (λ x z. cc) p q)
  told_out fs (Spent place) {r} pass e p q k =
      let is : ◌≡◌ {A = Outcome} (Spent place) r = cc in
      subst (Post image h t₀ fs₀ run words bytes run₂ words₂ bytes₂) is (on_past fs pass (λ x z. cc) p q)

module _ {image : List ℕ} {h : Header} where
  -- ---- branches

  module _ {n i d c s : ℕ} {run : Run} {words bytes : List ℕ} {run₁ : Run} {words₁ bytes₁ : List ℕ} {run₂ : Run} {words₂ bytes₂ : List ℕ} (one : Outcome) (more : i ≡ 0 → ⊥)
      (ce : c ≡ (node_at image h i).a) (se : s ≡ scope_of run) (b : Became opened run words bytes run₁ words₁ bytes₁)
      (q : Post image h (test c d) [] run₁ words₁ bytes₁ run₂ words₂ bytes₂ one) where
    arm_way : Reached image h (arms n i d) [] run words bytes (test c d) (arm_of n i d s ∷ []) run₁ words₁ bytes₁
    unfolding store_of
    arm_way = became (test c d) (arm_of n i d s ∷ []) (λ K. rw (ce, se) (arm_tested more)) b

    pub arm_holds : {holds : Bool} → told_of c one ≡ Continue holds → holds ≡ true
        → Reached image h (arms n i d) [] run words bytes (enter_body (node_at image h i).b (d + 1)) (end_of s ∷ []) run₂ words₂ bytes₂
    arm_holds {holds} e k =
        let told = told_value c holds true one e k in
        via (enter_body (node_at image h i).b (d + 1)) (end_of s ∷ []) (on_value told.1 arm_way q) (λ K. arm_told_lem told.2)

    pub arm_fails : {holds : Bool} {run₃ : Run} {words₃ bytes₃ : List ℕ} → told_of c one ≡ Continue holds → holds ≡ false
        → Became (closed s) run₂ words₂ bytes₂ run₃ words₃ bytes₃ → Reached image h (arms n i d) [] run words bytes (arms n (onward image h i) d) [] run₃ words₃ bytes₃
    arm_fails {holds} e k cl =
        let told = told_value c holds false one e k in
        on_then (on_value told.1 arm_way q) (became (arms n (onward image h i) d) [] (λ K. arm_told_lem told.2) cl)

    pub arm_out : {r : Outcome} → told_of c one ≡ Break r → Post image h (arms n i d) [] run words bytes run₂ words₂ bytes₂ r
    arm_out e = told_out (arm_of n i d s ∷ []) one refl e arm_way q (λ v z K. rw ce (arm_told_lem z))

  module _ {n d : ℕ} {run : Run} {words bytes : List ℕ} (fits : Fits run words) where
    pub branches_way : {i : ℕ} → (node_at image h n).kind ≡ 10 → i ≡ (node_at image h n).a → Reached image h (work n d) [] run words bytes (arms n i d) [] run words bytes
    unfolding kind_of kinds
    branches_way {i} k e = moves (arms n i d) [] fits (λ K. rw e (branches_begun (ap kind_of k)))

    pub default_unit : (node_at image h n).b ≡ 0 → Post image h (arms n 0 d) [] run words bytes run words bytes (Done VUnit)
    default_unit unit = value_is (moves (ret VUnit) [] fits (λ K. no_default refl unit))

    pub default_done : {m : ℕ} {run₁ : Run} {words₁ bytes₁ : List ℕ} {r : Outcome} → m ≡ (node_at image h n).b → (m ≡ 0 → ⊥)
        → Post image h (enter_body m (d + 1)) [] run words bytes run₁ words₁ bytes₁ r → Post image h (arms n 0 d) [] run words bytes run₁ words₁ bytes₁ r
    default_done {m} e default q = on_post (moves (enter_body m (d + 1)) [] fits (λ K. rw e (default_entered refl (λ z. default (e ∙ z))))) q

  -- ---- loops

  pub loop_begun : {n d s : ℕ} {run : Run} {words bytes : List ℕ} {run₁ : Run} {words₁ bytes₁ : List ℕ} → (node_at image h n).kind ≡ 11 → s ≡ scope_of run
      → Became opened run words bytes run₁ words₁ bytes₁ → Reached image h (work n d) [] run words bytes (turn n d s) [] run₁ words₁ bytes₁
  unfolding store_of kind_of kinds
  loop_begun {n} {d} {s} k e b = became (turn n d s) [] (λ K. rw e (loop_opened (ap kind_of k))) b

  pub turn_bare : {n d s : ℕ} {run : Run} {words bytes : List ℕ} → Fits run words → (node_at image h n).a ≡ 0
      → Reached image h (turn n d s) [] run words bytes (enter_body (node_at image h n).b (d + 1)) (body_of n d s (scope_of run) ∷ []) run words bytes
  unfolding store_of
  turn_bare {n} {d} {s} {run} fits bare = moves (enter_body (node_at image h n).b (d + 1)) (body_of n d s (scope_of run) ∷ []) fits (λ K. turn_entered bare)

  module _ {n d c s : ℕ} {run : Run} {words bytes : List ℕ} {run₁ : Run} {words₁ bytes₁ : List ℕ} {run₂ : Run} {words₂ bytes₂ : List ℕ} (one : Outcome)
      (ce : c ≡ (node_at image h n).a) (condition : c ≡ 0 → ⊥) (b : Became emptied run words bytes run₁ words₁ bytes₁)
      (q : Post image h (test c d) [] run₁ words₁ bytes₁ run₂ words₂ bytes₂ one) where
    turn_way : Reached image h (turn n d s) [] run words bytes (test c d) (condition_of n d s ∷ []) run₁ words₁ bytes₁
    turn_way = became (test c d) (condition_of n d s ∷ []) (λ K. rw ce (turn_tested (λ z. condition (ce ∙ z)))) b

    pub turn_holds : {holds : Bool} → told_of c one ≡ Continue holds → holds ≡ true
        → Reached image h (turn n d s) [] run words bytes (enter_body (node_at image h n).b (d + 1)) (body_of n d s (scope_of run₂) ∷ []) run₂ words₂ bytes₂
    unfolding store_of
    turn_holds {holds} e k =
        let told = told_value c holds true one e k in
        via (enter_body (node_at image h n).b (d + 1)) (body_of n d s (scope_of run₂) ∷ []) (on_value told.1 turn_way q) (λ K. condition_told_lem told.2)

    pub turn_fails : {holds : Bool} {run₃ : Run} {words₃ bytes₃ : List ℕ} → told_of c one ≡ Continue holds → holds ≡ false
        → Became (closed s) run₂ words₂ bytes₂ run₃ words₃ bytes₃ → Post image h (turn n d s) [] run words bytes run₃ words₃ bytes₃ (Done VUnit)
    turn_fails {holds} e k cl =
        let told = told_value c holds false one e k in
        value_is (on_then (on_value told.1 turn_way q) (became (ret VUnit) [] (λ K. condition_told_lem told.2) cl))

    pub turn_out : {r : Outcome} → told_of c one ≡ Break r → Post image h (turn n d s) [] run words bytes run₂ words₂ bytes₂ r
    turn_out e = told_out (condition_of n d s ∷ []) one refl e turn_way q (λ v z K. rw ce (condition_told_lem z))

  module _ {n d m s f : ℕ} {run : Run} {words bytes : List ℕ} {run₁ : Run} {words₁ bytes₁ : List ℕ} {run₂ : Run} {words₂ bytes₂ : List ℕ} (one : Outcome)
      {r : ControlFlow Outcome (Unit {0})} (fits : Fits run words) (q : Post image h (enter_body m (d + 1)) [] run words bytes run₁ words₁ bytes₁ one)
      (a : PassGoes image h n s f one run₁ words₁ bytes₁ run₂ words₂ bytes₂ r) where
    pub pass_done : m ≡ (node_at image h n).b → f ≡ scope_of run
        → Advance image h (enter_body (node_at image h n).b (d + 1)) (body_of n d s (scope_of run) ∷ []) (turn n d s) [] run words bytes run₂ words₂ bytes₂ r
    pass_done e fe =
        let way : Reached image h (enter_body (node_at image h n).b (d + 1)) (body_of n d s (scope_of run) ∷ []) run words bytes (enter_body m (d + 1)) (body_of n d s f ∷ []) run words bytes
        = rw (e, fe) (here fits) in
        on_after_on one way q (a d)

  -- a pass takes, where the loop goes on
  pub pass_falls : {n x m s f : ℕ} {run : Run} {words bytes : List ℕ} {run₁ : Run} {words₁ bytes₁ : List ℕ} {run₂ : Run} {words₂ bytes₂ : List ℕ} (one : Outcome)
      {r : ControlFlow Outcome (Unit {0})} → Post image h (enter_body m x) [] run words bytes run₁ words₁ bytes₁ one
      → PassGoes image h n s f one run₁ words₁ bytes₁ run₂ words₂ bytes₂ r → r ≡ Continue tt → takes_of run₂ < takes_of run
  pass_falls (Done v) q a e =
      let entered = entering_falls body gives q.ways in
      omega (arith, entered, no_more (on_is (a 0).ways e))
  pass_falls (Broke b v) q a e =
      let entered = entering_falls body broke q.ways.0 in
      omega (arith, entered, no_more (on_is ((a 0).ways q.ways.1 q.ways.2) e))
  pass_falls (Refused why place) q a e = let out = (a 0).ways.0 in cc
  pass_falls (Spent place) q a e = let out = (a 0).ways.0 in cc

  -- ---- takes, where an evaluator returned

  pub no_more_post : {t₀ : Ctl} {fs₀ : List Frame} {run : Run} {words bytes : List ℕ} {run₁ : Run} {words₁ bytes₁ : List ℕ} {r : Outcome} → Post image h t₀ fs₀ run words bytes run₁ words₁ bytes₁ r
      → takes_of run₁ ≤ takes_of run
  no_more_post {r = Done v} q = came_less q.ways
  no_more_post {r = Broke b v} q = came_less q.ways.0
  no_more_post {r = Refused why place} q = not_more (q.ways.path [])
  no_more_post {r = Spent place} q = not_more (q.ways.path [])

  pub break_of_lem : {t₀ : Ctl} {fs₀ : List Frame} {run : Run} {words bytes : List ℕ} {run₁ : Run} {words₁ bytes₁ : List ℕ} → load_of image ≡ Ok h → (one : Outcome)
      → Post image h t₀ fs₀ run words bytes run₁ words₁ bytes₁ one → IsBreak image h one
  break_of_lem loaded (Done v) q = record { is = tt }
  break_of_lem loaded (Broke b v) q = record { is = record { loaded = loaded; first = q.ways.1; last = q.ways.2 } }
  break_of_lem loaded (Refused why place) q = record { is = tt }
  break_of_lem loaded (Spent place) q = record { is = tt }

  -- ---- kinds that evaluate nothing

  pub break_post : {n d : ℕ} {run : Run} {words bytes : List ℕ} → IsNode image h n → Fits run words → (node_at image h n).kind ≡ 12 → (node_at image h n).a ≡ 0
      → Post image h (work n d) [] run words bytes run words bytes (Broke n VUnit)
  unfolding kind_of kinds
  break_post is fits k bare = record { ways = (record { path = λ K. bare_break (ap kind_of k) bare }, is.first, is.last); fits = fits; room = refl }

  pub not_const_post : {n d : ℕ} {run : Run} {words bytes : List ℕ} → Fits run words → (0 < (node_at image h n).kind → (node_at image h n).kind ≤ 16 → ⊥)
      → Post image h (work n d) [] run words bytes run words bytes (Refused NotConst n)
  not_const_post {n} fits unlisted = refused (λ K. not_const (no_kind (node_at image h n).kind unlisted)) fits refl

pub falls_after : {run run₁ run₂ : Run} {r : ControlFlow Outcome (Unit {0})} → takes_of run₁ ≤ takes_of run → Falls r run₁ run₂ → Falls r run run₂
falls_after {run} {run₁} {run₂} fewer f = record { less = λ e. omega (arith, fewer, f.less e) }

pub never_on : {run run₁ : Run} {r : Outcome} → Falls (Break r) run run₁
never_on = record { less = λ e. cc }
