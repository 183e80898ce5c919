-- A key sought among the entries of an object that is being built, and an entry met again. Assumes nothing.
use mathlib.Core.Path.{◌≡◌, refl, sym, ap, ap₂, ◌∙◌}
use mathlib.Core.Bool.{Bool, true, false, cond}
use mathlib.Core.List.{List, [], ◌∷◌, ◌++◌, map}
use mathlib.Core.Option.{Option, some, none}
use Prim.Native.Nat.{ℕ, zero, suc, ◌+◌, ◌*◌, ◌≤◌, ◌<◌}
use native.Mathlib.Nat.{add-suc, suc-add}
use native.Mathlib.Numerals.{add-one}
use native.Mathlib.Omega.{arith}
use lib.ListN.{length, get_or, set, drop, length-drop, drop_of_length-le}
use lib.Seq.{drop-cons}
use Rattle.packed.specs.declared.layout.Header.{Header}
use Rattle.rules.specs.declared.Value.{Value}
use Rattle.rules.specs.declared.Value.TheVariants.{Unit as VUnit}
use Rattle.rules.specs.Store.{part_text, same_text}
use Rattle.rules.specs.Building.{entered}
use Rattle.entries.specs.Entries.{key_in, keys_in, key_at}
use Rattle.stores.proofs.Views.{length-view, view_get, rec_word}

abbrev pub keys_of : List (ℕ × Value) → List ℕ
keys_of es = map (λ e. e.0) es

-- what `get_or` gives where there is no entry
abbrev pub nothing : ℕ × Value
nothing = (0, VUnit)

-- ---- what is found

module _ (image : List ℕ) (h : Header) (key : ℕ) where
  abbrev same : ℕ → Bool
  same k = same_text (part_text image h k) (part_text image h key)

  -- ---- the search

  module _ (to : ℕ) (words : List ℕ) where
    -- what a search from cell i on finds
    abbrev pub key_from : ℕ → Option ℕ
    key_from i = key_at image h key i (drop i (keys_in to words))

    -- one turn of the search, whose test gave b
    pub key_turn : (i : ℕ) (b : Bool) → i < to → b ≡ same (get_or words (1795 + 4 * i) 0) → key_from i ≡ cond b (some i) (key_from (i + 1))
    unfolding key_at keys_in
    key_turn i b below test =
        let here : get_or (keys_in to words) i 0 ≡ get_or words (1795 + 4 * i) 0 =
        view_get key_in 1792 4 to i words 0 below ∙ rec_word 1792 4 i 3 words (omega arith) ∙ ap (λ (j : ℕ). get_or words j 0) (omega arith) in
        ap (key_at image h key i) (drop-cons (keys_in to words) i 0 (omega (arith, length-view key_in 1792 4 to words)))
        ∙ ap₂ (λ (t : Bool) (j : ℕ). cond t (some i) (key_at image h key j (drop j (keys_in to words)))) (ap same here ∙ sym test) (sym (add-one i))

    pub key_none : (i : ℕ) → to ≤ i → key_from i ≡ none
    unfolding key_at keys_in
    key_none i past = ap (key_at image h key i) (drop_of_length-le (keys_in to words) {i = i} (omega (arith, length-view key_in 1792 4 to words)))

  -- what is found is among those that were searched
  found_among : (ks : List ℕ) (i j : ℕ) → key_at image h key i ks ≡ some j → (i ≤ j) × (j < i + length ks)
  unfolding key_at
  found_among [] i j e = let z : ◌≡◌ {A = ℕ} 0 1 = cc in absurd (omega arith)
  found_among (k ∷ ks) i j e = go (same k) e (found_among ks (suc i) j)
    where
      go : (b : Bool) → cond b (some i) (key_at image h key (suc i) ks) ≡ some j
          → (key_at image h key (suc i) ks ≡ some j → (suc i ≤ j) × (j < suc i + length ks)) → (i ≤ j) × (j < i + suc (length ks))
      go true q later = let same_number : i ≡ j = cc in (omega arith, omega arith)
      go false q later = let below = later q in (omega arith, omega arith)

  pub found_within : (head end i : ℕ) (words : List ℕ) → key_from end words (head + 1) ≡ some i → (head < i) × (i < end)
  unfolding keys_in
  found_within head end i words e =
      let among = found_among (drop (head + 1) (keys_in end words)) (head + 1) i e in
      let long = length-drop (head + 1) (keys_in end words) in
      let all = length-view key_in 1792 4 end words in
      (omega arith, omega arith)

  -- ---- "An entry met again replaces its value"

  module _ (v : Value) where
    pub entered_new : (es : List (ℕ × Value)) (i : ℕ) → key_at image h key i (keys_of es) ≡ none → entered image h es key v ≡ es ++ ((key, v) ∷ [])
    unfolding key_at entered
    entered_new [] i e = refl
    entered_new (x ∷ es) i e = go (same x.0) e (entered_new es (suc i))
      where
        go : (b : Bool) → cond b (some i) (key_at image h key (suc i) (keys_of es)) ≡ none
            → (key_at image h key (suc i) (keys_of es) ≡ none → entered image h es key v ≡ es ++ ((key, v) ∷ []))
            → cond b ((x.0, v) ∷ es) (x ∷ entered image h es key v) ≡ x ∷ es ++ ((key, v) ∷ [])
        go true q later = let z : ◌≡◌ {A = ℕ} 0 1 = cc in absurd (omega arith)
        go false q later = ap (λ (r : List (ℕ × Value)). x ∷ r) (later q)

    pub entered_known : (es : List (ℕ × Value)) (i j : ℕ) → key_at image h key i (keys_of es) ≡ some (i + j) → entered image h es key v ≡ set es j ((get_or es j nothing).0, v)
    unfolding key_at entered
    entered_known [] i j e = let z : ◌≡◌ {A = ℕ} 0 1 = cc in absurd (omega arith)
    entered_known (x ∷ es) i zero e = go (same x.0) e (found_among (keys_of es) (suc i) (i + 0))
      where
        go : (b : Bool) → cond b (some i) (key_at image h key (suc i) (keys_of es)) ≡ some (i + 0)
            → (key_at image h key (suc i) (keys_of es) ≡ some (i + 0) → (suc i ≤ i + 0) × (i + 0 < suc i + length (keys_of es)))
            → cond b ((x.0, v) ∷ es) (x ∷ entered image h es key v) ≡ (x.0, v) ∷ es
        go true q later = refl
        go false q later = absurd (omega (arith, later q))
    entered_known (x ∷ es) i (suc j) e = go (same x.0) e (entered_known es (suc i) j)
      where
        go : (b : Bool) → cond b (some i) (key_at image h key (suc i) (keys_of es)) ≡ some (i + suc j)
            → (key_at image h key (suc i) (keys_of es) ≡ some (suc i + j) → entered image h es key v ≡ set es j ((get_or es j nothing).0, v))
            → cond b ((x.0, v) ∷ es) (x ∷ entered image h es key v) ≡ x ∷ set es j ((get_or es j nothing).0, v)
        go true q later = let no : i ≡ i + suc j = cc in absurd (omega arith)
        go false q later = ap (λ (r : List (ℕ × Value)). x ∷ r) (later (q ∙ ap some (add-suc i j ∙ sym (suc-add i j))))
