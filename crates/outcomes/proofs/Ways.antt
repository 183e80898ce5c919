-- Ways of the machine put together: a way and what follows it; an outcome that passes the frames that wait for a value. Assumes nothing.
use Prim.Native.Nat.{ℕ}
use Rattle.std.specs.Prelude.{Result, Ok, Err}
use mathlib.Core.Path.{◌≡◌, refl, ap, ◌∙◌, subst}
use mathlib.Core.Bool.{Bool, true, false, ◌&&◌}
use mathlib.Core.Option.{Option}
use mathlib.Core.List.{List, [], ◌∷◌, ◌++◌}
use lib.ListN.{length}
use Rattle.fields.proofs.Tests.{and_both}
use Rattle.packed.specs.declared.layout.Header.{Header}
use Rattle.rules.specs.declared.Value.{Value}
use Rattle.rules.specs.declared.Refusal.{Refusal}
use Rattle.rules.specs.Store.{Store}
use Rattle.rules.specs.declared.Refused.{Refused as WasRefused}
use Rattle.rules.specs.Targets.{Wrote}
use Rattle.rules.specs.Building.{Made}
use Rattle.rules.specs.Machine.{Ctl, ret, brk, Frame, going, stop, made, wrote, bound}
use Rattle.rules.specs.Go.{Go}
use Rattle.rules.proofs.Going.{stay, to, ◌then◌}
use Rattle.rules.proofs.BreakMoves.{passes, break_passes}
use Rattle.stores.specs.Stores.{store_of, takes_of, Fits, Became, Makes, Tried}
use Rattle.targets.specs.Reading.{Writes}
use Rattle.outcomes.specs.declared.Outcome.{Outcome}
use Rattle.outcomes.specs.declared.Outcome.TheVariants.{Done, Broke, Refused, Spent}
use Rattle.std.specs.declared.ops.ControlFlow.{ControlFlow}
use Rattle.std.specs.declared.ops.ControlFlow.TheVariants.{Continue, Break}
use Rattle.outcomes.specs.Post.{Came, Ways, Post, WaysOn, Advance, Same, After, AfterOn}
use Rattle.outcomes.specs.Outcomes.{got_of, written_of, bound_of}
use Rattle.stores.specs.declared.run.Run.{Run}

-- what is no value
abbrev pub NoValue : Outcome → Type 0
NoValue r = (v : Value) → r ≡ Done v → ⊥

-- frames that a break leaves with the store as it is
abbrev pub all_pass : List Frame → Bool
all_pass [] = true
all_pass (f ∷ fs) = passes f && all_pass fs

module _ {image : List ℕ} {h : Header} where
  -- a break leaves them all
  breaks_pass : {l b : ℕ} {v : Value} {σ : Store} (fs : List Frame) → all_pass fs ≡ true → (K : List Frame)
      → Go image h l (going (brk b v) (fs ++ K) σ) l (going (brk b v) K σ)
  breaks_pass [] pass K = stay
  breaks_pass (f ∷ fs) pass K = let both = and_both (passes f) (all_pass fs) pass in break_passes f both.0 then breaks_pass fs both.1 K

  module _ {t₀ : Ctl} {fs₀ : List Frame} {l₀ : ℕ} {σ₀ : Store} where
    pub came_then : {t₁ t : Ctl} {fs₁ fs : List Frame} {l₁ l : ℕ} {σ₁ σ : Store}
        → Came image h t₀ fs₀ l₀ σ₀ t₁ fs₁ l₁ σ₁ → Came image h t₁ fs₁ l₁ σ₁ t fs l σ → Came image h t₀ fs₀ l₀ σ₀ t fs l σ
    came_then p q = record { path = λ K. p.path K then q.path K }

    ways_then : {t₁ : Ctl} {fs₁ : List Frame} {l₁ : ℕ} {σ₁ : Store} (l : ℕ) (σ : Store) (r : Outcome)
        → Came image h t₀ fs₀ l₀ σ₀ t₁ fs₁ l₁ σ₁ → Ways image h t₁ fs₁ l₁ σ₁ l σ r → Ways image h t₀ fs₀ l₀ σ₀ l σ r
    ways_then l σ (Done v) p q = came_then p q
    ways_then l σ (Broke b v) p q = (came_then p q.0, q.1, q.2)
    ways_then l σ (Refused why place) p q = record { path = λ K. p.path K then q.path K }
    ways_then l σ (Spent place) p q = record { at = q.at; path = λ K. p.path K then q.path K; takes = q.takes; place = q.place; none = q.none }

    ways_on_then : {t₁ : Ctl} {fs₁ : List Frame} {l₁ : ℕ} {σ₁ : Store} (t : Ctl) (fs : List Frame) (l : ℕ) (σ : Store) (r : ControlFlow Outcome (Unit {0}))
        → Came image h t₀ fs₀ l₀ σ₀ t₁ fs₁ l₁ σ₁ → WaysOn image h t₁ fs₁ t fs l₁ σ₁ l σ r → WaysOn image h t₀ fs₀ t fs l₀ σ₀ l σ r
    ways_on_then t fs l σ (Continue u) p q = came_then p q
    ways_on_then t fs l σ (Break r) p q = ways_then l σ r p q

    -- an expression's outcome over frames that wait for a value: what is no value passes them
    ways_past : {t₁ : Ctl} {l₁ : ℕ} {σ₁ : Store} (fs : List Frame) (l : ℕ) (σ : Store) (one : Outcome) → all_pass fs ≡ true → NoValue one
        → Came image h t₀ fs₀ l₀ σ₀ t₁ fs l₁ σ₁ → Ways image h t₁ [] l₁ σ₁ l σ one → Ways image h t₀ fs₀ l₀ σ₀ l σ one
    ways_past fs l σ (Done v) pass none p q = absurd (none v refl)
    ways_past fs l σ (Broke b v) pass none p q = (record { path = λ K. p.path K then q.0.path (fs ++ K) then breaks_pass fs pass K }, q.1, q.2)
    ways_past fs l σ (Refused why place) pass none p q = record { path = λ K. p.path K then q.path (fs ++ K) }
    ways_past fs l σ (Spent place) pass none p q =
        record {
          at = λ K. q.at (fs ++ K);
          path = λ K. p.path K then q.path (fs ++ K);
          takes = λ K. q.takes (fs ++ K);
          place = λ K. q.place (fs ++ K);
          none = q.none;
        }

-- ---- the same of what functions promise: run₁ words₁ bytes₁ stand between

module _ {image : List ℕ} {h : Header} {t₀ : Ctl} {fs₀ : List Frame} {run : Run} {words bytes : List ℕ} {run₁ : Run} {words₁ bytes₁ : List ℕ} {run₂ : Run} {words₂ bytes₂ : List ℕ} where
  pub post_then : {t₁ : Ctl} {fs₁ : List Frame} {r : Outcome}
      → Came image h t₀ fs₀ (takes_of run) (store_of run words bytes) t₁ fs₁ (takes_of run₁) (store_of run₁ words₁ bytes₁) → length bytes₁ ≡ length bytes
      → Post image h t₁ fs₁ run₁ words₁ bytes₁ run₂ words₂ bytes₂ r → Post image h t₀ fs₀ run words bytes run₂ words₂ bytes₂ r
  post_then {r = r} p same q =
      record { ways = ways_then (takes_of run₂) (store_of run₂ words₂ bytes₂) r p q.ways; fits = q.fits; room = q.room ∙ same }

  pub advance_then : {t₁ t : Ctl} {fs₁ fs : List Frame} {r : ControlFlow Outcome (Unit {0})}
      → Came image h t₀ fs₀ (takes_of run) (store_of run words bytes) t₁ fs₁ (takes_of run₁) (store_of run₁ words₁ bytes₁) → length bytes₁ ≡ length bytes
      → Advance image h t₁ fs₁ t fs run₁ words₁ bytes₁ run₂ words₂ bytes₂ r → Advance image h t₀ fs₀ t fs run words bytes run₂ words₂ bytes₂ r
  advance_then {t = t} {fs = fs} {r = r} p same q =
      record { ways = ways_on_then t fs (takes_of run₂) (store_of run₂ words₂ bytes₂) r p q.ways; fits = q.fits; room = q.room ∙ same }

  -- what is no value, of an expression for which frames wait
  pub post_past : {t₁ : Ctl} (fs : List Frame) {one : Outcome} → all_pass fs ≡ true → NoValue one
      → Came image h t₀ fs₀ (takes_of run) (store_of run words bytes) t₁ fs (takes_of run₁) (store_of run₁ words₁ bytes₁) → length bytes₁ ≡ length bytes
      → Post image h t₁ [] run₁ words₁ bytes₁ run₂ words₂ bytes₂ one → Post image h t₀ fs₀ run words bytes run₂ words₂ bytes₂ one
  post_past fs {one} pass none p same q =
      record { ways = ways_past fs (takes_of run₂) (store_of run₂ words₂ bytes₂) one pass none p q.ways; fits = q.fits; room = q.room ∙ same }

module _ {image : List ℕ} {h : Header} {t₀ : Ctl} {fs₀ : List Frame} {run₁ : Run} {words₁ bytes₁ : List ℕ} {run₂ : Run} {words₂ bytes₂ : List ℕ} where
  -- a value, of an expression for which frames wait
  pub valued : {l₀ : ℕ} {σ₀ : Store} {t₁ : Ctl} {fs : List Frame} {one : Outcome} {v : Value} → one ≡ Done v
      → Came image h t₀ fs₀ l₀ σ₀ t₁ fs (takes_of run₁) (store_of run₁ words₁ bytes₁)
      → Post image h t₁ [] run₁ words₁ bytes₁ run₂ words₂ bytes₂ one
      → Came image h t₀ fs₀ l₀ σ₀ (ret v) fs (takes_of run₂) (store_of run₂ words₂ bytes₂)
  valued {t₁ = t₁} {fs = fs} {v = v} e p q =
      let w = subst (Ways image h t₁ [] (takes_of run₁) (store_of run₁ words₁ bytes₁) (takes_of run₂) (store_of run₂ words₂ bytes₂)) e q.ways in
      record { path = λ K. p.path K then w.path (fs ++ K) }

-- ---- out with an outcome

module _ {image : List ℕ} {h : Header} {t₀ : Ctl} {fs₀ : List Frame} {run : Run} {words bytes : List ℕ} {run₁ : Run} {words₁ bytes₁ : List ℕ} {r : Outcome} where
  pub out_of : (t : Ctl) (fs : List Frame) → Post image h t₀ fs₀ run words bytes run₁ words₁ bytes₁ r
      → Advance image h t₀ fs₀ t fs run words bytes run₁ words₁ bytes₁ (Break r)
  out_of t fs q = record { ways = q.ways; fits = q.fits; room = q.room }

  pub of_out : {t : Ctl} {fs : List Frame} → Advance image h t₀ fs₀ t fs run words bytes run₁ words₁ bytes₁ (Break r)
      → Post image h t₀ fs₀ run words bytes run₁ words₁ bytes₁ r
  of_out q = record { ways = q.ways; fits = q.fits; room = q.room }

-- ---- an outcome and what the frames that wait for it make of it

module _ {image : List ℕ} {h : Header} {fs : List Frame} {run : Run} {words bytes : List ℕ} {run₁ : Run} {words₁ bytes₁ : List ℕ} where
  pub after_out : (t : Ctl) (one : Outcome) {r : Outcome} → After image h fs one run words bytes run₁ words₁ bytes₁ r
      → AfterOn image h fs t one run words bytes run₁ words₁ bytes₁ (Break r)
  after_out t (Done v) a = record { ways = out_of t [] a.ways }
  after_out t (Broke b v) a = record { ways = λ first last. out_of t [] (a.ways first last) }
  after_out t (Refused why place) a = record { ways = (ap Break a.ways.0, a.ways.1) }
  after_out t (Spent place) a = record { ways = (ap Break a.ways.0, a.ways.1) }

module _ {image : List ℕ} {h : Header} {run : Run} {words bytes : List ℕ} where
  same : Same image h run words bytes run words bytes
  same = record { same_run = refl; same_words = refl; same_bytes = refl }

  -- what is no value passes frames that wait for a value, with nothing done
  pub after_past : (fs : List Frame) (one : Outcome) → all_pass fs ≡ true → NoValue one → Fits run words → After image h fs one run words bytes run words bytes one
  after_past fs (Done v) pass none fits = absurd (none v refl)
  after_past fs (Broke b v) pass none fits =
      record { ways = λ first last. record { ways = (record { path = breaks_pass fs pass }, first, last); fits = fits; room = refl } }
  after_past fs (Refused why place) pass none fits = record { ways = (refl, same) }
  after_past fs (Spent place) pass none fits = record { ways = (refl, same) }

module _ {image : List ℕ} {h : Header} {t₀ : Ctl} {fs₀ : List Frame} {run : Run} {words bytes : List ℕ} {run₁ : Run} {words₁ bytes₁ : List ℕ} {run₂ : Run} {words₂ bytes₂ : List ℕ} {run₃ : Run} {words₃ bytes₃ : List ℕ} where
  pub advance_after : {t₁ t : Ctl} {fs : List Frame} (one : Outcome) {r : ControlFlow Outcome (Unit {0})}
      → Came image h t₀ fs₀ (takes_of run) (store_of run words bytes) t₁ fs (takes_of run₁) (store_of run₁ words₁ bytes₁) → length bytes₁ ≡ length bytes
      → Post image h t₁ [] run₁ words₁ bytes₁ run₂ words₂ bytes₂ one → AfterOn image h fs t one run₂ words₂ bytes₂ run₃ words₃ bytes₃ r
      → Advance image h t₀ fs₀ t [] run words bytes run₃ words₃ bytes₃ r
  advance_after (Done v) p long q a = advance_then (valued refl p q) (q.room ∙ long) a.ways
  advance_after {fs = fs} (Broke b v) p long q a =
      advance_then (record { path = λ K. p.path K then q.ways.0.path (fs ++ K) }) (q.room ∙ long) (a.ways q.ways.1 q.ways.2)
  advance_after {fs = fs} (Refused why place) p long q a =
      let s = a.ways.1 in
      rw (a.ways.0, s.same_run, s.same_words, s.same_bytes)
      (record { ways = record { path = λ K. p.path K then q.ways.path (fs ++ K) }; fits = q.fits; room = q.room ∙ long })
  advance_after {fs = fs} (Spent place) p long q a =
      let s = a.ways.1 in
      let w = q.ways in
      rw (a.ways.0, s.same_run, s.same_words, s.same_bytes)
      (record {
        ways =
            record {
              at = λ K. w.at (fs ++ K);
              path = λ K. p.path K then w.path (fs ++ K);
              takes = λ K. w.takes (fs ++ K);
              place = λ K. w.place (fs ++ K);
              none = w.none;
            };
        fits = q.fits;
        room = q.room ∙ long;
      })

  pub post_after : {t₁ : Ctl} {fs : List Frame} (one : Outcome) {r : Outcome}
      → Came image h t₀ fs₀ (takes_of run) (store_of run words bytes) t₁ fs (takes_of run₁) (store_of run₁ words₁ bytes₁) → length bytes₁ ≡ length bytes
      → Post image h t₁ [] run₁ words₁ bytes₁ run₂ words₂ bytes₂ one → After image h fs one run₂ words₂ bytes₂ run₃ words₃ bytes₃ r
      → Post image h t₀ fs₀ run words bytes run₃ words₃ bytes₃ r
  post_after one p long q a = of_out (advance_after one p long q (after_out t₀ one a))

-- ---- a way of one or more transitions, and the outcome at its end

module _ {image : List ℕ} {h : Header} {t₀ : Ctl} {fs₀ : List Frame} {run : Run} {words bytes : List ℕ} {run₁ : Run} {words₁ bytes₁ : List ℕ} where
  pub ended : {v : Value} → ((K : List Frame) → Go image h (takes_of run) (going t₀ (fs₀ ++ K) (store_of run words bytes)) (takes_of run₁) (going (ret v) K (store_of run₁ words₁ bytes₁)))
      → Fits run₁ words₁ → length bytes₁ ≡ length bytes → Post image h t₀ fs₀ run words bytes run₁ words₁ bytes₁ (Done v)
  ended p fits long = record { ways = record { path = p }; fits = fits; room = long }

  pub refused : {why : Refusal} {place : ℕ} → ((K : List Frame) → Go image h (takes_of run) (going t₀ (fs₀ ++ K) (store_of run words bytes)) (takes_of run₁) (stop why place))
      → Fits run₁ words₁ → length bytes₁ ≡ length bytes → Post image h t₀ fs₀ run words bytes run₁ words₁ bytes₁ (Refused why place)
  refused p fits long = record { ways = record { path = p }; fits = fits; room = long }

  -- what is made of the store, by a function that keeps the takes
  pub made_post : {r : Result Value WasRefused} {f : Store → Made}
      → ((K : List Frame) → Go image h (takes_of run) (going t₀ (fs₀ ++ K) (store_of run words bytes)) (takes_of run) (made image h K (f (store_of run words bytes))))
      → Makes r f run words bytes run₁ words₁ bytes₁ → Post image h t₀ fs₀ run words bytes run₁ words₁ bytes₁ (got_of r)
  unfolding store_of
  made_post {r = Ok v} p m = ended (λ K. rw m.kept.takes (to (p K) (ap (made image h K) m.did))) m.kept.fits m.kept.room
  made_post {r = Err e} p m = refused (λ K. rw m.kept.takes (to (p K) (ap (made image h K) m.did))) m.kept.fits m.kept.room

  -- and what is written to it
  pub wrote_post : {r : Result (Unit {0}) WasRefused} {f : Store → Wrote}
      → ((K : List Frame) → Go image h (takes_of run) (going t₀ (fs₀ ++ K) (store_of run words bytes)) (takes_of run) (wrote image h K (f (store_of run words bytes))))
      → Writes r f run words bytes run₁ words₁ bytes₁ → Post image h t₀ fs₀ run words bytes run₁ words₁ bytes₁ (written_of r)
  unfolding store_of
  wrote_post {r = Ok u} p m = ended (λ K. rw m.kept.takes (to (p K) (ap (wrote image h K) m.did))) m.kept.fits m.kept.room
  wrote_post {r = Err e} p m = refused (λ K. rw m.kept.takes (to (p K) (ap (wrote image h K) m.did))) m.kept.fits m.kept.room

  -- and what is bound in it
  pub bound_post : {r : Bool} {f : Store → Option Store} (n : ℕ) (v : Value)
      → ((K : List Frame) → Go image h (takes_of run) (going t₀ (fs₀ ++ K) (store_of run words bytes)) (takes_of run) (bound image h n v K (f (store_of run words bytes))))
      → Tried r f run words bytes run₁ words₁ bytes₁ → Post image h t₀ fs₀ run words bytes run₁ words₁ bytes₁ (bound_of r n v)
  unfolding store_of
  bound_post {r = true} n v p m = ended (λ K. rw m.kept.takes (to (p K) (ap (bound image h n v K) m.did))) m.kept.fits m.kept.room
  bound_post {r = false} n v p m = refused (λ K. rw m.kept.takes (to (p K) (ap (bound image h n v K) m.did))) m.kept.fits m.kept.room

  -- and what becomes of it, for a value that is there
  pub became_post : {f : Store → Store} {v : Value}
      → ((K : List Frame) → Go image h (takes_of run) (going t₀ (fs₀ ++ K) (store_of run words bytes)) (takes_of run) (going (ret v) K (f (store_of run words bytes))))
      → Became f run words bytes run₁ words₁ bytes₁ → Post image h t₀ fs₀ run words bytes run₁ words₁ bytes₁ (Done v)
  became_post p m = ended (λ K. rw (m.store, m.kept.takes) (p K)) m.kept.fits m.kept.room

-- ---- what is neither a value nor a break stays as it is, whatever frames wait

abbrev pub NoBreak : Outcome → Type 0
NoBreak r = (b : ℕ) (v : Value) → r ≡ Broke b v → ⊥

module _ {image : List ℕ} {h : Header} {run : Run} {words bytes : List ℕ} where
  pub after_final : (fs : List Frame) (one : Outcome) → NoValue one → NoBreak one → After image h fs one run words bytes run words bytes one
  after_final fs (Done v) none unbroken = absurd (none v refl)
  after_final fs (Broke b v) none unbroken = absurd (unbroken b v refl)
  after_final fs (Refused why place) none unbroken = record { ways = (refl, same) }
  after_final fs (Spent place) none unbroken = record { ways = (refl, same) }
