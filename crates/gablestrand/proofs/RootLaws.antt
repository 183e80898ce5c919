-- From the outcome of the root to the answer that the rules and the budget give. Assumes nothing.
use mathlib.Core.Path.{◌≡◌, refl, sym, subst}
use mathlib.Core.List.{List, []}
use Prim.Native.Nat.{ℕ, ◌-◌, ◌≤◌}
use native.Mathlib.Omega.{arith}
use lib.ListN.{length}
use Rattle.packed.specs.declared.layout.Header.{Header}
use Rattle.packed.specs.Layout.{size_of}
use Rattle.std.proofs.Common.{Ok}
use Rattle.image.specs.Load.{load_of}
use Rattle.image.proofs.Loads.{header_right}
use Rattle.rules.specs.declared.Value.{Value}
use Rattle.rules.specs.declared.Refusal.{Refusal}
use Rattle.rules.specs.declared.Refusal.TheVariants.{BreakOutside}
use Rattle.rules.specs.declared.Answer.{Answer}
use Rattle.rules.specs.declared.Answer.TheVariants.{Refused as ARefused, Spent as ASpent}
use Rattle.rules.specs.Store.{Store, empty}
use Rattle.rules.specs.Machine.{enter, ret, Cfg, going, stop}
use Rattle.rules.specs.Runs.{start, refused, finished, Comes, stopped, valued, Budgeted, ended, spent, out_of, value_encoded}
use Rattle.rules.specs.Go.{Go}
use Rattle.rules.proofs.Going.{◌then◌}
use Rattle.rules.proofs.BreakMoves.{break_at_root}
use Rattle.stores.specs.View.{view}
use Rattle.stores.specs.Stores.{store_of, bindings_in, pendings_in, cells_in, takes_of}
use Rattle.stores.specs.declared.run.Run.{Run}
use Rattle.outcomes.specs.declared.Outcome.{Outcome}
use Rattle.outcomes.specs.declared.Outcome.TheVariants.{Done, Broke, Refused, Spent}
use Rattle.outcomes.specs.Post.{Ways, Post}
use Rattle.outcomes.specs.Outcomes.{IsNode}
use Rattle.gablestrand.specs.Evaluate.{store_words, store_bytes, LongEnough, cleared, Decided, Evaluated, long}
use Rattle.gablestrand.specs.Answering.{Finished}

-- the numbers of a run that begins
abbrev pub fresh : ℕ → Run
fresh budget = record { takes = budget; bound = 0; scope = 0; floor = 0; pending = 0; cells = 0; text = 0 }

fresh_empty : (budget : ℕ) (words bytes : List ℕ) → store_of (fresh budget) words bytes ≡ empty
unfolding store_of bindings_in pendings_in cells_in view
fresh_empty budget words bytes = refl

pub root_node : {image : List ℕ} {h : Header} → load_of image ≡ Ok h → IsNode image h h.root
root_node {image} {h} loaded = let right = header_right image h loaded in record { loaded = loaded; first = right.root_node.0; last = right.root_node.1 }

pub loaded_whole : (image : List ℕ) {h : Header} → load_of image ≡ Ok h → size_of h ≤ length image
loaded_whole image {h} loaded = omega (arith, (header_right image h loaded).exact)

abbrev AtRoot : List ℕ → Header → ℕ → List ℕ → List ℕ → Run → List ℕ → List ℕ → Outcome → Type 0
AtRoot image h budget words bytes run' words' bytes' r = Post image h (enter h.root 1) [] (fresh budget) words bytes run' words' bytes' r

module _ (image : List ℕ) (h : Header) (budget : ℕ) (words bytes : List ℕ) (run' : Run) (words' bytes' : List ℕ) where
  abbrev root : Cfg
  root = going (enter h.root 1) [] (store_of (fresh budget) words bytes)

  -- what the budget has less is what was taken
  comes : (m : ℕ) (d : Cfg) → Go image h budget root m d → Comes image h (start image h) (budget - m) d
  comes m d g =
      let taken : g.taken ≡ budget - m = omega (arith, g.left) in
      subst (λ (σ : Store). Comes image h (going (enter h.root 1) [] σ) (budget - m) d) (fresh_empty budget words bytes)
      (subst (λ (k : ℕ). Comes image h root k d) taken g.comes)

  within : (r : Outcome) → Ways image h (enter h.root 1) [] budget (store_of (fresh budget) words bytes) (takes_of run') (store_of run' words' bytes') r → takes_of run' ≤ budget
  within (Done v) w = omega (arith, (w.path []).left)
  within (Broke b v) w = omega (arith, (w.0.path []).left)
  within (Refused why place) w = omega (arith, (w.path []).left)
  within (Spent place) w = omega (arith, (w.path []).left)

  stops : (why : Refusal) (place : ℕ) (out : List ℕ) → Go image h budget root (takes_of run') (stop why place)
      → Budgeted image h out (start image h) budget (ARefused why place (budget - takes_of run')) out
  stops why place out way = ended (record { comes = comes (takes_of run') (stop why place) way; end = refused }) (omega arith) stopped

module _ {image : List ℕ} {h : Header} {budget : ℕ} {words bytes : List ℕ} {run' : Run} {words' bytes' : List ℕ} where
  pub left_within : {r : Outcome} → AtRoot image h budget words bytes run' words' bytes' r → takes_of run' ≤ budget
  left_within {r} p = within image h budget words bytes run' words' bytes' r p.ways

  pub done : {v : Value} {out out' : List ℕ} {a : Answer} → AtRoot image h budget words bytes run' words' bytes' (Done v)
      → Finished image h (store_of run' words' bytes') v (budget - takes_of run') out out' a → Budgeted image h out (start image h) budget a out'
  done {v} {out} {out'} {a} p f =
      let σ = store_of run' words' bytes' in
      subst (λ (o : List ℕ). Budgeted image h out (start image h) budget a o) (sym f.left)
      (subst (λ (b : Answer). Budgeted image h out (start image h) budget b (out_of image h out (value_encoded image h out v σ))) (sym f.answers)
      (ended (record { comes = comes image h budget words bytes run' words' bytes' (takes_of run') (going (ret v) [] σ) (p.ways.path []); end = finished }) (omega arith) valued))

  pub broke : {b : ℕ} {v : Value} {out : List ℕ} → AtRoot image h budget words bytes run' words' bytes' (Broke b v)
      → Budgeted image h out (start image h) budget (ARefused BreakOutside b (budget - takes_of run')) out
  broke {b} {v} {out} p = stops image h budget words bytes run' words' bytes' BreakOutside b out (p.ways.0.path [] then break_at_root)

  pub stopped_at : {why : Refusal} {place : ℕ} {out : List ℕ} → AtRoot image h budget words bytes run' words' bytes' (Refused why place)
      → Budgeted image h out (start image h) budget (ARefused why place (budget - takes_of run')) out
  stopped_at {why} {place} {out} p = stops image h budget words bytes run' words' bytes' why place out (p.ways.path [])

  pub starved : {place : ℕ} {out : List ℕ} → AtRoot image h budget words bytes run' words' bytes' (Spent place)
      → Budgeted image h out (start image h) budget (ASpent place (budget - takes_of run')) out
  starved {place} {out} p =
      let way = p.ways in
      let all : budget - takes_of run' ≡ budget = omega (arith, way.none) in
      subst (λ (k : ℕ). Budgeted image h out (start image h) budget (ASpent place k) out) (sym all)
      (spent (record {
        at = way.at [];
        comes = subst (λ (k : ℕ). Comes image h (start image h) k (way.at [])) all (comes image h budget words bytes run' words' bytes' (takes_of run') (way.at []) (way.path []));
        takes = way.takes [];
        place = way.place [];
      }))

pub cleared_after : {image words bytes out w y o : List ℕ} {b : ℕ} {a : Answer} → LongEnough words bytes → Decided image b out a o → w ≡ cleared store_words words → y ≡ cleared store_bytes bytes
    → Evaluated image b words bytes out a w y o
cleared_after {image} {words} {bytes} {out} {w} {y} {o} {b} {a} l d p q =
    subst (λ (x : List ℕ). Evaluated image b words bytes out a x y o) (sym p)
    (subst (λ (x : List ℕ). Evaluated image b words bytes out a (cleared store_words words) x o) (sym q) (long l d))
