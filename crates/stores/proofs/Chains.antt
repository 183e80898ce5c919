-- Changes of the store: none, one that is tried, one after another, and one of the scope's two numbers. Assumes nothing.
use mathlib.Core.Path.{◌≡◌, refl, sym, ap, ◌∙◌}
use mathlib.Core.Bool.{true, false, true≢false}
use mathlib.Core.List.{List}
use mathlib.Core.Option.{Option, some, none}
use Prim.Native.Nat.{ℕ}
use lib.ListN.{length}
use Rattle.rules.specs.Store.{Store, with_scope, with_floor}
use Rattle.stores.specs.Stores.{store_of, Fits, Kept, Became, Tried, BecameRun}
use Rattle.stores.proofs.Numbers.{scope_set, floor_set, fits_scope, fits_floor}
use Rattle.stores.specs.declared.run.Run.{Run}
use Rattle.stores.specs.Run.{set_scope, set_floor}

-- other bytes, as many, and the same
pub kept_bytes : {run : Run} {words bytes bytes' : List ℕ} → Fits run words → length bytes' ≡ length bytes → Kept run bytes run words bytes'
kept_bytes f long = record { fits = f; room = long; takes = refl }

pub kept_same : {run : Run} {words bytes : List ℕ} → Fits run words → Kept run bytes run words bytes
kept_same f = kept_bytes f refl

pub kept_then : {run : Run} {bytes : List ℕ} {run' : Run} {words' bytes' : List ℕ} {run'' : Run} {words'' bytes'' : List ℕ}
    → Kept run bytes run' words' bytes' → Kept run' bytes' run'' words'' bytes'' → Kept run bytes run'' words'' bytes''
kept_then a b =
    record { fits = b.fits; room = b.room ∙ a.room; takes = b.takes ∙ a.takes }

module _ {run : Run} {words bytes : List ℕ} where
  -- a change that is tried: there is no room, or it is made
  pub refused : (f : Store → Option Store) → Fits run words → f (store_of run words bytes) ≡ none → Tried false f run words bytes run words bytes
  refused f fits e = record { did = e; undone = λ _. refl; kept = kept_same fits }

  module _ {run' : Run} {words' bytes' : List ℕ} where
    pub made : (f : Store → Option Store) (g : Store → Store) → f (store_of run words bytes) ≡ some (g (store_of run words bytes))
        → Became g run words bytes run' words' bytes' → Tried true f run words bytes run' words' bytes'
    made f g e b = record { did = e ∙ ap some (sym b.store); undone = λ q. absurd (true≢false q); kept = b.kept }

    -- the same change of this store, said otherwise
    pub became_as : (f g : Store → Store) → f (store_of run words bytes) ≡ g (store_of run words bytes)
        → Became f run words bytes run' words' bytes' → Became g run words bytes run' words' bytes'
    became_as f g e b = record { store = b.store ∙ e; kept = b.kept }

    pub became_then : {run'' : Run} {words'' bytes'' : List ℕ} {f g : Store → Store} → Became f run words bytes run' words' bytes'
        → Became g run' words' bytes' run'' words'' bytes'' → Became (λ σ. g (f σ)) run words bytes run'' words'' bytes''
    became_then {g} a b = record { store = b.store ∙ ap g a.store; kept = kept_then a.kept b.kept }

pub run_then : {run run' run'' : Run} {f g : Store → Store} → BecameRun f run run' → BecameRun g run' run'' → BecameRun (λ σ. g (f σ)) run run''
run_then a b words bytes fits =
    let first = a words bytes fits in
    became_then first (b words bytes first.kept.fits)

pub became_scope : (x : ℕ) (run : Run) → BecameRun (with_scope x) run (set_scope run x)
became_scope x run words bytes f =
    record { store = scope_set run words bytes x; kept = record { fits = fits_scope run words x f; room = refl; takes = refl } }

pub became_floor : (x : ℕ) (run : Run) → BecameRun (with_floor x) run (set_floor run x)
became_floor x run words bytes f =
    record { store = floor_set run words bytes x; kept = record { fits = fits_floor run words x f; room = refl; takes = refl } }
