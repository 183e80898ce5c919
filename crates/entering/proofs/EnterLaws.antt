-- Entering a node: the takes of each kind, and the machine's way to the node's work, to a stop, or to the take that is refused. Assumes nothing.
use Prim.Native.Nat.{ℕ, zero, suc, ◌-◌, ◌≤◌, ◌<◌}
use native.Mathlib.Omega.{arith}
use mathlib.Core.Path.{◌≡◌, refl}
use mathlib.Core.Bool.{Bool, true, false, ◌&&◌, ◌||◌, cond}
use mathlib.Core.List.{List, []}
use lib.Dec.{eqb, ltb}
use borrow.Author.Tests.{eqb-true, lt-ltb, le-ltb}
use Rattle.packed.specs.declared.layout.Header.{Header}
use Rattle.packed.specs.Layout.{node_at}
use Rattle.rules.specs.Store.{Store}
use Rattle.rules.specs.Machine.{kinds, kind_of, takes_more, most_depth, Ctl, enter, enter_body, again, work, Frame, going}
use Rattle.rules.specs.Go.{Go}
use Rattle.rules.proofs.Going.{stay, ◌then◌}
use Rattle.rules.proofs.Moves.{Enters, expression, body, entering_takes, again_takes, too_deep, entered_once, entered_first, entered_again, body_entered_lem}
use Rattle.stores.specs.Stores.{store_of, takes_of, Fits}
use Rattle.stores.proofs.Numbers.{fits_takes, takes_set}
use Rattle.outcomes.specs.declared.Outcome.{Outcome}
use Rattle.std.specs.declared.ops.ControlFlow.{ControlFlow}
use Rattle.outcomes.specs.Post.{Starved}
use Rattle.entering.specs.Entering.{HasEntered, Shallow, Took, took, deep, spent}
use Rattle.outcomes.proofs.KindLaws.{every_kind}
use Rattle.stores.specs.declared.run.Run.{Run}

-- ---- how often each kind takes

abbrev pub takes_by : ℕ → ℕ
takes_by kind = cond (takes_more (kind_of kind)) 2 1

-- 1 to 6, 11 and 12 take twice
abbrev pub two_takes : ℕ → Bool
two_takes kind = (ltb kind 7 && ltb 0 kind) || (ltb 10 kind && ltb kind 13)

pub takes_by_lem : (kind : ℕ) → takes_by kind ≡ cond (two_takes kind) 2 1
unfolding kinds
takes_by_lem kind =
    eqb-true (takes_by kind) (cond (two_takes kind) 2 1)
    (every_kind (λ y k. eqb (cond (takes_more k) 2 1) (cond (two_takes y) 2 1)) refl
    (λ y past. rw (le-ltb y 7 (omega arith), lt-ltb 10 y (omega arith), le-ltb y 13 (omega arith)))
    kind)

-- ---- the machine's way

module _ (image : List ℕ) (h : Header) where
  -- the control t enters node n at depth d, by so many takes
  pub record Entry (t : Ctl) (n d takes : ℕ) : Type 0 where
    pub enters : Enters t n d
    pub way : d ≤ most_depth → (l : ℕ) → takes ≤ l → (K : List Frame) (σ : Store) → Go image h l (going t K σ) (l - takes) (going (work n d) K σ)
    pub starves : d ≤ most_depth → (l : ℕ) → l < takes → (σ : Store) → Starved image h t [] l σ n 0

  module _ (n d : ℕ) where
    -- nothing is left for the first take
    at_once : (t : Ctl) → Enters t n d → d ≤ most_depth → (σ : Store) → Starved image h t [] 0 σ n 0
    at_once t enters fits σ =
        record {
          at = λ K. going t K σ;
          path = λ K. stay;
          takes = λ K. (entering_takes enters fits K σ).0;
          place = λ K. (entering_takes enters fits K σ).1;
          none = refl;
        }

    once : (t : Ctl) → Enters t n d → d ≤ most_depth → (l : ℕ) → l < 1 → (σ : Store) → Starved image h t [] l σ n 0
    once t enters fits zero few σ = at_once t enters fits σ
    once t enters fits (suc l) few σ = absurd (omega arith)

    -- nor for the second
    twice : takes_more (kind_of (node_at image h n).kind) ≡ true → d ≤ most_depth → (l : ℕ) → l < 2 → (σ : Store) → Starved image h (enter n d) [] l σ n 0
    twice more fits zero few σ = at_once (enter n d) expression fits σ
    twice more fits (suc zero) few σ =
        record {
          at = λ K. going (again n d) K σ;
          path = λ K. entered_first fits (λ e. absurd (omega arith)) more;
          takes = λ K. (again_takes n d K σ).0;
          place = λ K. (again_takes n d K σ).1;
          none = refl;
        }
    twice more fits (suc (suc l)) few σ = absurd (omega arith)

    pub of_body : Entry (enter_body n d) n d 1
    of_body =
        record {
          enters = body;
          way = λ fits l enough K σ. body_entered_lem fits (λ e. absurd (omega arith));
          starves = λ fits l few σ. once (enter_body n d) body fits l few σ;
        }

    pub of_expression : (takes : ℕ) → takes ≡ takes_by (node_at image h n).kind → Entry (enter n d) n d takes
    of_expression takes e = go (takes_more (kind_of (node_at image h n).kind)) refl e
      where
        go : (more : Bool) → takes_more (kind_of (node_at image h n).kind) ≡ more → takes ≡ cond more 2 1 → Entry (enter n d) n d takes
        go true more two =
            rw two
            (record {
              enters = expression;
              way = λ fits l enough K σ.
                  let all : l - 2 ≡ l - 1 - 1 = omega arith in
                  rw all (entered_first fits (λ e. absurd (omega arith)) more then entered_again (λ e. absurd (omega arith)));
              starves = twice more;
            })
        go false more one =
            rw one
            (record {
              enters = expression;
              way = λ fits l enough K σ. entered_once fits (λ e. absurd (omega arith)) more;
              starves = once (enter n d) expression;
            })

pub shallow_of : {n d takes : ℕ} {run run' : Run} {r : ControlFlow Outcome (Unit {0})} → Took n d takes run run' r → Shallow d r
shallow_of (took fits enough) e = fits
shallow_of (deep past) e = let z : ◌≡◌ {A = ℕ} 0 1 = cc in absurd (omega arith)
shallow_of (spent fits few) e = fits

-- ---- what the takes leave: a number of the run that is no part of the store

pub entered_by : {image : List ℕ} {h : Header} {t : Ctl} {n d takes : ℕ} {run run' : Run} {r : ControlFlow Outcome (Unit {0})}
    → Entry image h t n d takes → Took n d takes run run' r → {words : List ℕ} (bytes : List ℕ) → Fits run words → HasEntered image h t n d run words bytes run' words bytes r
entered_by {takes = takes} {run = run} entry (took fits enough) {words = words} bytes room =
    let x = takes_of run - takes in
    record {
      advance = record {
        ways = record { path = λ K. rw (takes_set run words bytes x) (entry.way fits (takes_of run) enough K (store_of run words bytes)) };
        fits = fits_takes run words x room;
        room = refl;
      };
      shallow = λ e. fits;
    }
entered_by {n = n} {takes = takes} {run = run} entry (deep past) bytes room =
    record {
      advance = record { ways = record { path = λ K. too_deep entry.enters past }; fits = room; room = refl };
      shallow = shallow_of {n = n} {takes = takes} {run = run} (deep past);
    }
entered_by {run = run} entry (spent fits few) {words = words} bytes room =
    record {
      advance = record { ways = entry.starves fits (takes_of run) few (store_of run words bytes); fits = fits_takes run words 0 room; room = refl };
      shallow = λ e. fits;
    }
