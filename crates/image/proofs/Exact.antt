-- `load_of` answers exactly what `Answers` says: that answer, and no other. Assumes nothing.
use mathlib.Core.Path.{◌≡◌, refl, sym, ◌∙◌}
use mathlib.Core.Bool.{Bool, true, false, not, cond}
use mathlib.Core.List.{List}
use Prim.Native.Nat.{ℕ, ◌≤◌}
use native.Mathlib.Omega.{arith}
use borrow.Author.Tests.{ltb-true, ltb-false, leb-true, eqb-true, eqb-false, lt-ltb, le-ltb, le-leb, eq-eqb, ne_eqb}
use lib.Dec.{ltb, leb, eqb}
use lib.ListN.{length}
use Rattle.fields.proofs.Tests.{and_both}
use Rattle.packed.specs.declared.layout.Header.{Header}
use Rattle.std.proofs.Common.{Option, Some, None, Result, Err}
use Rattle.image.specs.declared.LoadError.{LoadError}
use Rattle.image.specs.declared.LoadError.TheVariants.{BadLength, BadHeader}
use Rattle.records.specs.First.{first_from, Never}
use Rattle.packed.specs.Layout.{header_of, size_of}
use Rattle.records.specs.Records.{is_node, record_bad, record_offset, records_in, placed, bad_record}
use Rattle.tree.specs.Tree.{at_fault, lowest_fault}
use Rattle.image.specs.Load.{by_tree, by_records, judged, load_of}
use Rattle.image.specs.Answers.{HeaderRight, Answers, short, other_edition, other_length, no_root, bad_record as bad_record_there, bad_tree, loads}
use Rattle.records.proofs.Search.{found, is_found, nowhere, is_nowhere}

-- a root within the nodes, as a test and as facts
root_so : (nodes root : ℕ) → is_node nodes root ≡ true → (1 ≤ root) × (root ≤ nodes)
root_so nodes root e =
    let both = and_both (ltb 0 root) (leb root nodes) e in
    (ltb-true 0 root both.0, leb-true root nodes both.1)

so_root : (nodes root : ℕ) → (1 ≤ root) × (root ≤ nodes) → is_node nodes root ≡ true
so_root nodes root r = rw (lt-ltb 0 root r.0, le-leb root nodes r.1)

not_root : (nodes root : ℕ) → ((1 ≤ root) × (root ≤ nodes) → ⊥) → is_node nodes root ≡ false
not_root nodes root n = go (is_node nodes root) refl
  where
    go : (b : Bool) → is_node nodes root ≡ b → b ≡ false
    go true e = absurd (n (root_so nodes root e))
    go false e = refl

module _ (image : List ℕ) (h : Header) (right : HeaderRight image h) where
  -- ---- once the header is right, the records and then the tree decide

  by_tree_lem : (x : Option ℕ) → lowest_fault image h ≡ x → Never (record_bad image h) 0 (records_in h) → Answers image (by_tree h x)
  unfolding lowest_fault
  by_tree_lem (Some n) e good = bad_tree h n right good (found (at_fault image h) 1 h.nodes n e)
  by_tree_lem None e good = loads h right good (nowhere (at_fault image h) 1 h.nodes e)

  by_records_lem : (x : Option ℕ) → first_from (record_bad image h) 0 (records_in h) ≡ x → Answers image (by_records image h (placed (record_offset h) x))
  by_records_lem (Some r) e = bad_record_there h r right (found (record_bad image h) 0 (records_in h) r e)
  by_records_lem None e = by_tree_lem (lowest_fault image h) refl (nowhere (record_bad image h) 0 (records_in h) e)

  judged_right : judged image h ≡ by_records image h (bad_record image h)
  unfolding judged
  judged_right = rw (eq-eqb _ _ right.edition, eq-eqb _ _ right.exact, so_root _ _ right.root_node)

  pub load_right : load_of image ≡ by_records image h (bad_record image h)
  unfolding load_of
  load_right = rw (le-ltb (length image) 8 right.whole, sym right.is) judged_right

-- ---- the answer is one that the facts give

module _ (image : List ℕ) where
  abbrev header : Header
  header = header_of image

  by_root : (b : Bool) → is_node header.nodes header.root ≡ b → 8 ≤ length image → header.edition ≡ 1 → length image ≡ size_of header
      → Answers image (cond (not b) (Err BadHeader) (by_records image header (bad_record image header)))
  unfolding bad_record
  by_root true e w d l =
      by_records_lem image header (record { is = refl; whole = w; edition = d; exact = l; root_node = root_so header.nodes header.root e })
      (first_from (record_bad image header) 0 (records_in header)) refl
  by_root false e w d l = no_root w d l (λ r. true_false (sym (so_root header.nodes header.root r) ∙ e))
    where
      true_false : true ≡ false → ⊥
      true_false q = let z : ◌≡◌ {A = ℕ} 0 1 = cc in omega arith

  by_size : (b : Bool) → eqb (length image) (size_of header) ≡ b → 8 ≤ length image → header.edition ≡ 1
      → Answers image (cond (not b) (Err BadLength) (cond (not (is_node header.nodes header.root)) (Err BadHeader) (by_records image header (bad_record image header))))
  by_size true e w d = by_root (is_node header.nodes header.root) refl w d (eqb-true (length image) (size_of header) e)
  by_size false e w d = other_length w d (eqb-false (length image) (size_of header) e)

  by_edition : (b : Bool) → eqb header.edition 1 ≡ b → 8 ≤ length image
      → Answers image (cond (not b) (Err BadHeader) (cond (not (eqb (length image) (size_of header))) (Err BadLength) (cond (not (is_node header.nodes header.root)) (Err BadHeader) (by_records image header (bad_record image header)))))
  by_edition true e w = by_size (eqb (length image) (size_of header)) refl w (eqb-true header.edition 1 e)
  by_edition false e w = other_edition w (eqb-false header.edition 1 e)

  by_whole : (b : Bool) → ltb (length image) 8 ≡ b → Answers image (cond b (Err BadLength) (judged image header))
  unfolding judged
  by_whole true e = short (ltb-true (length image) 8 e)
  by_whole false e = by_edition (eqb header.edition 1) refl (ltb-false (length image) 8 e)

  pub answers : Answers image (load_of image)
  unfolding load_of
  answers = by_whole (ltb (length image) 8) refl

-- ---- and the facts give no other

pub only : (image : List ℕ) (x : Result Header LoadError) → Answers image x → load_of image ≡ x
unfolding load_of judged bad_record lowest_fault
only image x (short l) = rw (lt-ltb (length image) 8 l)
only image x (other_edition w d) = rw (le-ltb (length image) 8 w, ne_eqb _ _ d)
only image x (other_length w d l) = rw (le-ltb (length image) 8 w, eq-eqb _ _ d, ne_eqb _ _ l)
only image x (no_root w d l r) = rw (le-ltb (length image) 8 w, eq-eqb _ _ d, eq-eqb _ _ l, not_root _ _ r)
only image x (bad_record_there h r right f) = load_right image h right ∙ rw (is_found (record_bad image h) 0 (records_in h) r f)
only image x (bad_tree h n right good f) =
    load_right image h right
    ∙ rw (is_nowhere (record_bad image h) 0 (records_in h) good, is_found (at_fault image h) 1 h.nodes n f)
only image x (loads h right good fine) =
    load_right image h right
    ∙ rw (is_nowhere (record_bad image h) 0 (records_in h) good, is_nowhere (at_fault image h) 1 h.nodes fine)
