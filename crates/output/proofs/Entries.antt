-- The entries of an object, by ascending key, one after the other. Assumes nothing.
use mathlib.Core.Path.{◌≡◌, refl, sym, ap, ◌∙◌, subst}
use mathlib.Core.Bool.{Bool}
use mathlib.Core.List.{List, [], ◌∷◌, ◌++◌, map, append-nil, append_assoc}
use Prim.Native.Nat.{ℕ, suc, ◌+◌, ◌<◌}
use native.Mathlib.Omega.{arith}
use lib.ListN.{length, length-append}
use Rattle.packed.specs.declared.layout.Header.{Header}
use Rattle.rules.specs.declared.Value.{Value}
use Rattle.rules.specs.Store.{Store, part_text}
use Rattle.rules.specs.Output.{Piece, within, length_and_bytes, sorted_entries, entry_pieces}
use Rattle.stores.specs.Stores.{store_of}
use Rattle.std.specs.Prelude.{Option, Some, None, Result, Ok, Err}
use Rattle.stores.specs.Finding.{found_of}
use Rattle.boxes.specs.Cells.{CellAt}
use Rattle.ordered.specs.Ordered.{key_text, sorted_cells, EntryCount, KeyAt, NextEntry}
use Rattle.ordered.proofs.OrderLaws.{head_of}
use Rattle.ordered.proofs.EntryLaws.{sorted_entries_lem}
use Rattle.ordered.proofs.WordLaws.{answer_first, answer_next}
use Rattle.pouring.specs.declared.Spot.{Spot}
use Rattle.pouring.specs.declared.NoPlace.{NoPlace}
use Rattle.pouring.specs.Pouring.{IsPlace, Puts, bits_before}
use Rattle.output.specs.Writing.{Encodes, Writes, entry_of, entry_piece, object_pieces}
use Rattle.output.proofs.Steps.{writes_none, writes_on, writes_stuck, writes_place, writes_long, writes_puts, writes_value}
use Rattle.stores.specs.declared.run.Run.{Run}

-- ---- an entry is its key and its value

module _ (image : List ℕ) {h : Header} {run : Run} {words : List ℕ} (bytes : List ℕ) {i n : ℕ} {writing : Bool} {s : Spot} {out out₁ : List ℕ} {key : ℕ} {r : Result Spot NoPlace} (keyed : KeyAt key run words i)
    (first : Puts writing (bits_before s) (length_and_bytes (part_text image h key)) out out₁ r) where
  keyed_first : Writes image h (store_of run words bytes) n writing s (length_and_bytes (key_text image h (store_of run words bytes).cells i)) out out₁ r
  unfolding key_text
  keyed_first =
      subst (λ (k : ℕ). Writes image h (store_of run words bytes) n writing s (length_and_bytes (part_text image h k)) out out₁ r) (keyed.is bytes) (writes_puts first)

module _ (image : List ℕ) {h : Header} {run : Run} {words : List ℕ} (bytes : List ℕ) {i n : ℕ} {writing : Bool} {s : Spot} {out out₁ : List ℕ} {key : ℕ} (keyed : KeyAt key run words i) where
  pub entry_stuck : {why : NoPlace} → Puts writing (bits_before s) (length_and_bytes (part_text image h key)) out out₁ (Err why)
      → Writes image h (store_of run words bytes) n writing s (entry_piece image h (store_of run words bytes) i) out out₁ (Err why)
  entry_stuck first = writes_stuck _ (keyed_first image bytes keyed first)

  pub entry_value : {t : Spot} {v : Value} {out₂ : List ℕ} {r : Result Spot NoPlace} → Puts writing (bits_before s) (length_and_bytes (part_text image h key)) out out₁ (Ok t)
      → CellAt v run words i → Encodes image h run words bytes v n writing t out₁ out₂ r
      → Writes image h (store_of run words bytes) n writing s (entry_piece image h (store_of run words bytes) i) out out₂ r
  entry_value {t} {v} {out₂} {r} first value one =
      writes_on (keyed_first image bytes keyed first)
      (subst (λ (x : Value). Writes image h (store_of run words bytes) n writing t (within x ∷ []) out₁ out₂ r) (value.is bytes) (writes_value one))

-- ---- the loop over the entries: those in `front` are written, `last` is the last of them

pub data Lasts : List ℕ → Option ℕ → Type 0 where
  nothing : Lasts [] None
  after : (before : List ℕ) {i : ℕ} → Lasts (before ++ (i ∷ [])) (Some i)

pub record EntriesDone (image : List ℕ) (h : Header) (run : Run) (words bytes : List ℕ) (owner allowance : ℕ) (writing : Bool) (start : Spot) (out₀ : List ℕ) (k : ℕ) (end : Spot) (out : List ℕ) (last : Option ℕ) : Type 0 where
  pub front : List ℕ
  pub rest : List ℕ
  pub sorted : sorted_cells image h owner (store_of run words bytes).cells ≡ front ++ rest
  pub count : length front ≡ k
  pub lasts : Lasts front last
  pub place : IsPlace end out
  pub long : length out ≡ length out₀
  pub passed :
      Writes image h (store_of run words bytes) allowance writing start (entry_pieces image h (store_of run words bytes) (map (entry_of image h (store_of run words bytes)) front)) out₀ out (Ok end)

pieces_append : (image : List ℕ) (h : Header) (σ : Store) (xs ys : List (List ℕ × Value)) → entry_pieces image h σ (xs ++ ys) ≡ entry_pieces image h σ xs ++ entry_pieces image h σ ys
pieces_append image h σ [] ys = refl
pieces_append image h σ (x ∷ xs) ys =
    ap (λ (ps : List Piece). length_and_bytes x.0 ++ (within x.1 ∷ ps)) (pieces_append image h σ xs ys)
    ∙ sym (append_assoc (length_and_bytes x.0) (within x.1 ∷ entry_pieces image h σ xs) (entry_pieces image h σ ys))

map_both : {A B : Type 0} (f : A → B) (xs ys : List A) → map f (xs ++ ys) ≡ map f xs ++ map f ys
map_both f [] ys = refl
map_both f (x ∷ xs) ys = ap (λ zs. f x ∷ zs) (map_both f xs ys)

map_length : {A B : Type 0} (f : A → B) (xs : List A) → length (map f xs) ≡ length xs
map_length f [] = refl
map_length f (x ∷ xs) = ap suc (map_length f xs)

module _ (image : List ℕ) (h : Header) (run : Run) (words bytes : List ℕ) (owner : ℕ) where
  abbrev τ : Store
  τ = store_of run words bytes

  abbrev cells_pieces : List ℕ → List Piece
  cells_pieces is = entry_pieces image h τ (map (entry_of image h τ) is)

  cells_append : (is js : List ℕ) → cells_pieces (is ++ js) ≡ cells_pieces is ++ cells_pieces js
  cells_append is js = ap (entry_pieces image h τ) (map_both (entry_of image h τ) is js) ∙ pieces_append image h τ (map (entry_of image h τ) is) (map (entry_of image h τ) js)

  all_pieces : (is : List ℕ) → sorted_cells image h owner τ.cells ≡ is → cells_pieces is ≡ entry_pieces image h τ (sorted_entries image h τ owner τ.cells)
  all_pieces is e = ap cells_pieces (sym e) ∙ ap (entry_pieces image h τ) (sym (sorted_entries_lem image h τ τ.cells owner))

  -- what is found next is the first of the rest
  next_of : (front rest : List ℕ) (last r : Option ℕ) → Lasts front last → sorted_cells image h owner τ.cells ≡ front ++ rest → NextEntry r image h run words owner last → r ≡ found_of (head_of rest)
  next_of front rest last r nothing e next = answer_first image h run words owner r bytes next ∙ ap (λ (is : List ℕ). found_of (head_of is)) e
  next_of front rest last r (after before {i = i}) e next = answer_next image h run words owner r i before rest bytes next (e ∙ append_assoc before (i ∷ []) rest)

  first_is : (rest : List ℕ) (i : ℕ) → Some i ≡ found_of (head_of rest) → (more : List ℕ) × (rest ≡ i ∷ more)
  first_is [] i e = cc
  first_is (j ∷ rest) i e = let same : j ≡ i = cc in (rest, ap (λ (x : ℕ). x ∷ rest) same)

  none_is : (rest : List ℕ) → None ≡ found_of (head_of rest) → rest ≡ []
  none_is [] e = refl
  none_is (j ∷ rest) e = cc

  count_both : (front rest : List ℕ) (count : ℕ) → sorted_cells image h owner τ.cells ≡ front ++ rest → EntryCount count run words owner → count ≡ length front + length rest
  count_both front rest count e c =
      c.is image h bytes ∙ ap length (sorted_entries_lem image h τ τ.cells owner) ∙ map_length (entry_of image h τ) (sorted_cells image h owner τ.cells) ∙ ap length e ∙ length-append front rest

module _ {image : List ℕ} {h : Header} {run : Run} {words bytes : List ℕ} {owner n : ℕ} {writing : Bool} where
  pub entries_start : {start : Spot} {out : List ℕ} → IsPlace start out → EntriesDone image h run words bytes owner n writing start out 0 start out None
  entries_start here = record { front = []; rest = _; sorted = refl; count = refl; lasts = nothing; place = here; long = refl; passed = writes_none here }

  module _ {start end : Spot} {k : ℕ} {out₀ out : List ℕ} {last : Option ℕ} (done : EntriesDone image h run words bytes owner n writing start out₀ k end out last) where
    pub entries_all : {count : ℕ} → EntryCount count run words owner → k ≡ count → Writes image h (store_of run words bytes) n writing start (object_pieces image h (store_of run words bytes) owner) out₀ out (Ok end)
    entries_all {count} c e =
        let empty : done.rest ≡ [] = nil done.rest (omega (arith, count_both image h run words bytes owner done.front done.rest count done.sorted c, done.count)) in
        let all : sorted_cells image h owner (store_of run words bytes).cells ≡ done.front = done.sorted ∙ ap (λ (is : List ℕ). done.front ++ is) empty ∙ append-nil done.front in
        subst (λ (ps : List Piece). Writes image h (store_of run words bytes) n writing start ps out₀ out (Ok end)) (all_pieces image h run words bytes owner done.front all) done.passed
      where
        nil : (is : List ℕ) → length is ≡ 0 → is ≡ []
        nil [] z = refl
        nil (i ∷ is) z = absurd (omega arith)

    -- as long as fewer than all are written there is a next one
    pub entries_none : {count : ℕ} → EntryCount count run words owner → k < count → NextEntry None image h run words owner last → ⊥
    entries_none {count} c less found =
        let empty = none_is image h run words bytes owner done.rest (next_of image h run words bytes owner done.front done.rest last None done.lasts done.sorted found) in
        omega (arith, count_both image h run words bytes owner done.front done.rest count done.sorted c, done.count, ap length empty)

    module _ {i : ℕ} (found : NextEntry (Some i) image h run words owner last) where
      follows : (after : List ℕ) × (done.rest ≡ i ∷ after)
      follows = first_is image h run words bytes owner done.rest i (next_of image h run words bytes owner done.front done.rest last (Some i) done.lasts done.sorted found)

      sorted_on : sorted_cells image h owner (store_of run words bytes).cells ≡ (done.front ++ (i ∷ [])) ++ follows.0
      sorted_on = done.sorted ∙ ap (λ (js : List ℕ). done.front ++ js) follows.1 ∙ sym (append_assoc done.front (i ∷ []) follows.0)

      pub entries_more : {t : Spot} {out₁ : List ℕ} → Writes image h (store_of run words bytes) n writing end (entry_piece image h (store_of run words bytes) i) out out₁ (Ok t)
          → EntriesDone image h run words bytes owner n writing start out₀ (k + 1) t out₁ (Some i)
      entries_more {t} {out₁} one =
          record {
            front = done.front ++ (i ∷ []);
            rest = follows.0;
            sorted = sorted_on;
            count = length-append done.front (i ∷ []) ∙ ap (λ (m : ℕ). m + 1) done.count;
            lasts = after done.front;
            place = writes_place done.place one;
            long = writes_long one ∙ done.long;
            passed =
                subst (λ (ps : List Piece). Writes image h (store_of run words bytes) n writing start ps out₀ out₁ (Ok t)) (sym (cells_append image h run words bytes owner done.front (i ∷ [])))
                (writes_on done.passed one);
          }

      pub entries_stuck : {why : NoPlace} {out₁ : List ℕ} → Writes image h (store_of run words bytes) n writing end (entry_piece image h (store_of run words bytes) i) out out₁ (Err why)
          → Writes image h (store_of run words bytes) n writing start (object_pieces image h (store_of run words bytes) owner) out₀ out₁ (Err why)
      entries_stuck {why} {out₁} one =
          let last = cells_pieces image h run words bytes owner follows.0 in
          let all =
          ap (λ (ps : List Piece). cells_pieces image h run words bytes owner done.front ++ ps) (sym (cells_append image h run words bytes owner (i ∷ []) follows.0))
          ∙ sym (cells_append image h run words bytes owner done.front ((i ∷ []) ++ follows.0))
          ∙ ap (cells_pieces image h run words bytes owner) (sym (append_assoc done.front (i ∷ []) follows.0))
          ∙ all_pieces image h run words bytes owner ((done.front ++ (i ∷ [])) ++ follows.0) sorted_on in
          subst (λ (ps : List Piece). Writes image h (store_of run words bytes) n writing start ps out₀ out₁ (Err why)) all (writes_on done.passed (writes_stuck last one))
