-- A way leaves no more takes than there were, and one that enters a node fewer. Assumes nothing.
use Prim.Native.Nat.{ℕ, zero, suc, ◌≤◌, ◌<◌}
use native.Mathlib.Omega.{arith}
use mathlib.Core.Path.{◌≡◌, refl, sym, ap, ◌∙◌}
use mathlib.Core.Bool.{Bool, true, false, true≢false}
use mathlib.Core.List.{List, [], ◌++◌}
use borrow.Author.Tests.{lt-ltb}
use native.Mathlib.Decide.{dec_le}
use Rattle.packed.specs.declared.layout.Header.{Header}
use Rattle.rules.specs.declared.Value.{Value}
use Rattle.rules.specs.declared.Refusal.{Refusal}
use Rattle.rules.specs.declared.Refusal.TheVariants.{Depth}
use Rattle.rules.specs.Store.{Store}
use Rattle.rules.specs.Machine.{Ctl, enter, enter_body, again, work, instructions, items, arms, turn, test, ret, brk, Frame, Cfg, going, stop, next, most_depth}
use Rattle.rules.specs.Runs.{iter, costs}
use Rattle.rules.specs.Go.{Go}
use Rattle.rules.proofs.Moves.{Enters, expression, body, entering_takes}
use Rattle.outcomes.specs.Post.{Came}

pub not_more : {image : List ℕ} {h : Header} {l m : ℕ} {c d : Cfg} → Go image h l c m d → m ≤ l
not_more g = omega (arith, g.left)

pub came_less : {image : List ℕ} {h : Header} {t₀ t : Ctl} {fs₀ fs : List Frame} {l₀ l : ℕ} {σ₀ σ : Store}
    → Came image h t₀ fs₀ l₀ σ₀ t fs l σ → l ≤ l₀
came_less p = not_more (p.path [])

-- what is done once a node was entered: its work; or its value or break is there
pub data Past : Ctl → Type 0 where
  works : {n d : ℕ} → Past (work n d)
  gives : {v : Value} → Past (ret v)
  breaks : {b : ℕ} {v : Value} → Past (brk b v)

-- whether a node is about to be entered
is_entering : Cfg → Bool
is_entering (stop why place) = false
is_entering (going (enter n d) K σ) = true
is_entering (going (enter_body n d) K σ) = true
is_entering (going (again n d) K σ) = false
is_entering (going (work n d) K σ) = false
is_entering (going (instructions n i d s) K σ) = false
is_entering (going (items n i d p) K σ) = false
is_entering (going (arms n i d) K σ) = false
is_entering (going (turn n d s) K σ) = false
is_entering (going (test c d) K σ) = false
is_entering (going (ret v) K σ) = false
is_entering (going (brk b v) K σ) = false

is_stop : Cfg → Bool
is_stop (stop why place) = true
is_stop (going t K σ) = false

stop_stays : (image : List ℕ) (h : Header) (k : ℕ) (why : Refusal) (place : ℕ) → iter image h k (stop why place) ≡ stop why place
unfolding iter next
stop_stays image h zero why place = refl
stop_stays image h (suc k) why place = stop_stays image h k why place

module _ {K K' : List Frame} {σ σ' : Store} where
  no_way : {t₀ t : Ctl} {n d : ℕ} → Enters t₀ n d → Past t → going t₀ K σ ≡ going t K' σ' → ⊥
  unfolding is_entering
  no_way expression works e = true≢false (ap is_entering e)
  no_way expression gives e = true≢false (ap is_entering e)
  no_way expression breaks e = true≢false (ap is_entering e)
  no_way body works e = true≢false (ap is_entering e)
  no_way body gives e = true≢false (ap is_entering e)
  no_way body breaks e = true≢false (ap is_entering e)

module _ (image : List ℕ) (h : Header) (K K' : List Frame) (σ σ' : Store) where
  deep_stops : {t₀ : Ctl} {n d : ℕ} → Enters t₀ n d → most_depth < d → next image h (going t₀ K σ) ≡ stop Depth n
  unfolding next
  deep_stops expression deep = rw (lt-ltb _ _ deep)
  deep_stops body deep = rw (lt-ltb _ _ deep)

  some_taken : {t₀ t : Ctl} {n d : ℕ} (k taken : ℕ) → Enters t₀ n d → Past t → iter image h k (going t₀ K σ) ≡ going t K' σ'
      → costs image h k (going t₀ K σ) ≡ taken → 1 ≤ taken
  unfolding iter costs is_stop
  some_taken zero taken e p there takes = absurd (no_way e p there)
  some_taken {t₀} {n = n} {d = d} (suc k) taken e p there takes = go (dec_le d most_depth)
    where
      go : Dec (d ≤ most_depth) → 1 ≤ taken
      go (yes fits) = omega (arith, takes, (entering_takes e fits K σ).0)
      go (no deep) =
          let ended = ap (iter image h k) (deep_stops e (omega (arith, deep))) ∙ stop_stays image h k Depth n in
          absurd (true≢false (ap is_stop (sym ended ∙ there)))

pub entering_falls : {image : List ℕ} {h : Header} {t₀ t : Ctl} {fs₀ fs : List Frame} {l₀ l : ℕ} {σ₀ σ : Store} {n d : ℕ}
    → Enters t₀ n d → Past t → Came image h t₀ fs₀ l₀ σ₀ t fs l σ → l < l₀
entering_falls {image} {h} {fs₀ = fs₀} {fs = fs} {σ₀ = σ₀} {σ = σ} e past p =
    let g = p.path [] in
    omega (arith, g.left, some_taken image h (fs₀ ++ []) (fs ++ []) σ₀ σ g.comes.transitions g.taken e past g.comes.there g.comes.takes)
