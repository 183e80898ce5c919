-- Laws of the naming counts. Assumes nothing.
use mathlib.Core.Path.{◌≡◌, refl, sym, ap, ◌∙◌}
use mathlib.Core.Bool.{cond}
use mathlib.Core.List.{List, [], ◌∷◌, ◌++◌}
use Prim.Native.Nat.{ℕ, zero, suc, ◌+◌, ◌<◌, ◌≤◌, min}
use native.Mathlib.Nat.{zero-add, add_assoc, add-zero, add-suc}
use native.Mathlib.Decide.{ℕ_discrete, dec_lt}
use native.Mathlib.Omega.{arith}
use borrow.Author.Tests.{lt-ltb, le-ltb, eq-eqb, ne_eqb, eqb-true}
use lib.Dec.{eqb, ltb}
use lib.ListN.{length, get_or, set, length-set, replicate, length-replicate, get_or-replicate}
use lib.Seq.{get_or-set_same, get_or-set_other}
use Rattle.fields.proofs.Tests.{same_flag}
use Rattle.tree.specs.Tree.{times, grown, Added, Holds}

pub times_append : (n : ℕ) (l m : List ℕ) → times n (l ++ m) ≡ times n l + times n m
unfolding times
times_append n [] m = sym (zero-add (times n m))
times_append n (x ∷ l) m = ap (λ (k : ℕ). cond (eqb x n) 1 0 + k) (times_append n l m) ∙ sym (add_assoc (cond (eqb x n) 1 0) (times n l) (times n m))

grown_on : (x s t : ℕ) → grown (grown x s) t ≡ grown x (s + t)
unfolding grown
grown_on x s zero = ap (grown x) (sym (add-zero s))
grown_on x s (suc t) = ap (λ (k : ℕ). cond (ltb k 255) (k + 1) k) (grown_on x s t) ∙ ap (grown x) (sym (add-suc s t))

-- no name, and the names of two lists one after the other
pub added_none : (l : List ℕ) → Added l l []
unfolding times grown
added_none l = record { long = refl; counts = λ n h. refl }

pub added_then : {a b c l m : List ℕ} → Added a b l → Added b c m → Added a c (l ++ m)
added_then {a} {b} {c} {l} {m} p q =
    record {
      long = q.long ∙ p.long;
      counts = λ n h.
          q.counts n h ∙ ap (λ (x : ℕ). grown x (times n m)) (p.counts n h)
          ∙ grown_on (get_or a n 0) (times n l) (times n m) ∙ ap (grown (get_or a n 0)) (sym (times_append n l m));
    }

-- one name more
pub added_one : (l : List ℕ) (node v : ℕ) → node < length l → v ≡ grown (get_or l node 0) 1 → Added l (set l node v) (node ∷ [])
unfolding times grown
added_one l node v h e = record { long = length-set l node v; counts = λ n _. go n (ℕ_discrete n node) }
  where
    go : (n : ℕ) → Dec (n ≡ node) → get_or (set l node v) n 0 ≡ grown (get_or l n 0) (times n (node ∷ []))
    go n (yes s) = rw (s, eq-eqb node node refl) (get_or-set_same l node v 0 h ∙ e)
    go n (no s) = rw (ne_eqb node n (λ q. s (sym q))) (get_or-set_other l node n v 0 s)

-- a count from 0 on, up to 255
capped_more : (t : ℕ) → Dec (t < 255) → cond (ltb (min 255 t) 255) (min 255 t + 1) (min 255 t) ≡ min 255 (suc t)
capped_more t (yes h) =
    let below : min 255 t < 255 = omega arith in
    rw (lt-ltb (min 255 t) 255 below) (omega arith)
capped_more t (no h) =
    let full : 255 ≤ min 255 t = omega arith in
    rw (le-ltb (min 255 t) 255 full) (omega arith)

capped : (t : ℕ) → grown 0 t ≡ min 255 t
unfolding grown
capped zero = refl
capped (suc t) = ap (λ (k : ℕ). cond (ltb k 255) (k + 1) k) (capped t) ∙ capped_more t (dec_lt t 255)

-- so it tells how often a node is named, where that is less often
pub tells : (t k : ℕ) → k < 255 → eqb (grown 0 t) k ≡ eqb t k
tells t k h =
    rw (capped t)
    (same_flag (eqb (min 255 t) k) (eqb t k)
    (λ e. let q = eqb-true (min 255 t) k e in eq-eqb t k (omega arith))
    (λ e. let q = eqb-true t k e in eq-eqb (min 255 t) k (omega arith)))

-- an array of zeros says 0 of each node, and counts from 0
pub zeros : Holds (replicate 4096 0) (λ m. 0)
zeros = record { long = length-replicate {A = ℕ} 4096 0; at = λ m h. get_or-replicate 4096 m 0 0 h }

pub from_zeros : {array names : List ℕ} → Added (replicate 4096 0) array names → Holds array (λ n. grown 0 (times n names))
from_zeros {array} {names} p =
    record {
      long = p.long ∙ length-replicate {A = ℕ} 4096 0;
      at = λ n h. p.counts n h ∙ ap (λ (x : ℕ). grown x (times n names)) (get_or-replicate 4096 n 0 0 h);
    }
