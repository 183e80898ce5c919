-- A part of a list, `slice s (s + n) l`: how long it is, a part of a part, and of two lists; two texts compared and put in order. Assumes nothing.
use mathlib.Core.Path.{◌≡◌, refl, sym, ap, ap₂, ◌∙◌}
use mathlib.Core.Bool.{Bool, true, ◌&&◌}
use mathlib.Core.List.{List, [], ◌∷◌, ◌++◌}
use Prim.Native.Nat.{ℕ, zero, suc, ◌+◌, ◌-◌, ◌≤◌}
use native.Mathlib.Nat.{sub-zero, zero-sub, suc-sub-suc}
use native.Mathlib.Omega.{arith}
use borrow.Author.Tests.{eq-eqb}
use lib.Dec.{eqb}
use lib.ListN.{length, take, drop, length-take}
use lib.Seq.{slice, length-slice, take-nil, drop-nil, drop-drop}
use Rattle.std.specs.Prelude.{Some}
use Rattle.std.specs.Str.{bytes_eq}
use Rattle.std.specs.Ordering.{nat_cmp, is_some_and, is_le}
use Rattle.std.specs.Cmp.Lexicographic.{slice_partial_cmp}
use Rattle.std.proofs.lemmas.Bool.Decides.{nat_tests}
use Rattle.std.proofs.lemmas.Cmp.{same_from_slice_cmp_tested}
use Rattle.rules.specs.Store.{same_text}
use Rattle.rules.specs.Output.{ascending}
use Rattle.std.proofs.lemmas.List.{drop-take}

-- ---- where a part is, and how long

pub length_part : (s n : ℕ) (l : List ℕ) → s + n ≤ length l → length (slice s (s + n) l) ≡ n
length_part s n l h = length-slice s (s + n) l h ∙ omega arith

pub part_of_rest : (a s n : ℕ) (l : List ℕ) → slice s (s + n) (drop a l) ≡ slice (a + s) (a + s + n) l
part_of_rest a s n l = drop-take s n (drop a l) ∙ ap (take n) (drop-drop s a l) ∙ sym (drop-take (a + s) n l)

take_both : (n : ℕ) (a b : List ℕ) → take n (a ++ b) ≡ take n a ++ take (n - length a) b
take_both n [] b = rw (take-nil n, sub-zero n)
take_both zero (x ∷ a) b = rw zero-sub
take_both (suc n) (x ∷ a) b = rw (suc-sub-suc, take_both n a b)

drop_both : (s : ℕ) (a b : List ℕ) → drop s (a ++ b) ≡ drop s a ++ drop (s - length a) b
drop_both s [] b = rw (drop-nil s, sub-zero s)
drop_both zero (x ∷ a) b = rw zero-sub
drop_both (suc s) (x ∷ a) b = rw (suc-sub-suc, drop_both s a b)

-- a part of two lists is one of the first and, for as many as are missing, one of the second
pub part_of_both : (s n : ℕ) (a b : List ℕ)
    → slice s (s + n) (a ++ b) ≡ slice s (s + n) a ++ slice (s - length a) (s - length a + (n - length (slice s (s + n) a))) b
part_of_both s n a b =
    let first = slice s (s + n) a in
    let missing : n - length (drop s a) ≡ n - length first =
    omega (arith, ap length (drop-take s n a), length-take n (drop s a)) in
    drop-take s n (a ++ b)
    ∙ ap (take n) (drop_both s a b)
    ∙ take_both n (drop s a) (drop (s - length a) b)
    ∙ ap₂ ◌++◌
    (sym (drop-take s n a))
    (ap (λ (j : ℕ). take j (drop (s - length a) b)) missing ∙ sym (drop-take (s - length a) (n - length first) b))

-- ---- two texts, compared and in order

pub same_text_is : (a b : List ℕ) → bytes_eq a b ≡ same_text a b
same_text_is [] [] = refl
same_text_is [] (y ∷ b) = refl
same_text_is (x ∷ a) [] = refl
same_text_is (x ∷ a) (y ∷ b) = ap (λ (t : Bool). eqb x y && t) (same_text_is a b)

same_text_refl : (a : List ℕ) → same_text a a ≡ true
same_text_refl [] = refl
same_text_refl (x ∷ a) = rw (eq-eqb x x refl) (same_text_refl a)

-- one payload has one text
pub same_text_of : (text : ℕ → List ℕ) (p q : ℕ) → p ≡ q → eqb p q ≡ same_text (text p) (text q)
same_text_of text p q e = rw (e, eq-eqb q q refl) (sym (same_text_refl (text q)))

pub ascending_is : (a b : List ℕ) (r : Bool) → r ≡ is_some_and is_le (slice_partial_cmp (λ x y. Some (nat_cmp x y)) a b) → r ≡ ascending a b
ascending_is = same_from_slice_cmp_tested nat_cmp is_le ascending refl (λ _ _. refl) (λ _ _. refl) (λ x y xs ys o h. grind (arith, nat_tests))
