-- The laws of text: where a part of it stands in the image and among what was built, and what putting it leaves. Assumes nothing.
use mathlib.Core.Path.{◌≡◌, sym, ap, ap₂, ◌∙◌}
use mathlib.Core.List.{List, ◌++◌, append_assoc}
use Prim.Native.Nat.{ℕ, ◌+◌, ◌-◌, ◌≤◌, ◌<◌}
use native.Mathlib.Decide.{dec_le}
use native.Mathlib.Omega.{arith}
use borrow.Author.Tests.{le-leb}
use borrow.Rule.Slice.PartMut.{put_mid}
use lib.ListN.{length, take, drop, length-append}
use lib.Seq.{slice, drop-drop, length-take-le, take_at}
use Rattle.std.specs.List.{copy_within}
use Rattle.std.specs.Prelude.{Some, None}
use Rattle.std.proofs.lemmas.Slice.{drop-append-drop}
use Rattle.packed.specs.declared.layout.Header.{Header}
use Rattle.packed.specs.Layout.{text_at, size_of}
use Rattle.numbers.specs.Decimal.{put_of, end_of}
use Rattle.numbers.proofs.DecimalLaws.{no_room, take_put}
use Rattle.rules.specs.Store.{image_text}
use Rattle.texts.specs.declared.Span.{Span}
use Rattle.texts.specs.declared.Sources.{Sources}
use Rattle.texts.specs.Text.{bytes_of, Spans, first_part, image_part, pool_text, Sourced}
use Rattle.std.proofs.lemmas.List.{drop-take}
use Rattle.texts.proofs.Parts.{length_part, part_of_rest, part_of_both}

-- ---- a text put where there is room for it

module _ (bytes : List ℕ) (at : ℕ) (text : List ℕ) where
  pub end_is : (count : ℕ) → length text ≡ count → at + count ≤ length bytes → Some (at + count) ≡ end_of bytes at text
  unfolding end_of
  end_is count e h = rw (e, le-leb (at + count) (length bytes) h)

  put_is : (count : ℕ) → length text ≡ count → at + count ≤ length bytes → put_of bytes at text ≡ take at bytes ++ text ++ drop (at + count) bytes
  unfolding put_of
  put_is count e h = rw (e, le-leb (at + count) (length bytes) h)

  pub put_mid_is : (k : ℕ) (put : List ℕ) → put ≡ text → length text ≡ k → at + k ≤ length bytes → put_mid at k bytes put ≡ put_of bytes at text
  put_mid_is k put same e h =
      ap₂ (λ (t r : List ℕ). take at bytes ++ (t ++ r)) same (drop-drop k at bytes)
      ∙ sym (append_assoc (take at bytes) text (drop (at + k) bytes))
      ∙ sym (put_is k e h)

-- ---- where a part stands

pub span_in_image : (h : Header) (start len : ℕ) (r : Span) → Spans h.text len (first_part h.text start len) r
    → Spans (size_of h) len (image_part h start len) (record { from = text_at h + r.from; count = r.count })
span_in_image h start len r s =
    record {
      within = omega (arith, s.within);
      short = s.short;
      is = λ image. ap (slice start (start + len)) (drop-take (text_at h) h.text image) ∙ s.is (drop (text_at h) image) ∙ part_of_rest (text_at h) r.from r.count image;
    }

span_length : {most n : ℕ} (text : List ℕ → List ℕ) (r : Span) → Spans most n text r → (l : List ℕ) → most ≤ length l → length (text l) ≡ r.count
span_length text r s l whole = ap length (s.is l) ∙ length_part r.from r.count l (omega (arith, s.within))

-- ---- a part of the image's text and of what was built

module _ (h : Header) (made start len : ℕ) (a b : Span)
    (first : Spans (size_of h) len (image_part h start len) a)
    (second : Spans made (len - a.count) (first_part made (start - h.text) (len - a.count)) b) where
  pool_is : (image bytes : List ℕ) → size_of h ≤ length image → pool_text image h made bytes start len ≡ bytes_of a image ++ bytes_of b bytes
  unfolding pool_text
  pool_is image bytes whole =
      let total : length (image_text image h) ≡ h.text = length_part (text_at h) h.text image whole in
      let found : length (image_part h start len image) ≡ a.count = span_length (image_part h start len) a first image whole in
      part_of_both start len (image_text image h) (take made bytes)
      ∙ ap₂ ◌++◌
      (first.is image)
      (ap₂ (λ (s n : ℕ). slice s (s + n) (take made bytes)) (ap (λ (k : ℕ). start - k) total) (ap (λ (k : ℕ). len - k) found)
      ∙ second.is bytes)

  pub sourced : Sourced h made start len (record { image = a; built = b })
  sourced =
      record {
        in_image = first.within;
        in_built = second.within;
        short = omega (arith, first.short, second.short);
        is = pool_is;
      }

module _ (image : List ℕ) (h : Header) (whole : size_of h ≤ length image) (made start len : ℕ) (bytes : List ℕ) (r : Sources) (from : Sourced h made start len r) where
  abbrev text : List ℕ
  text = pool_text image h made bytes start len

  abbrev first : List ℕ
  first = bytes_of r.image image

  abbrev end : ℕ
  end = r.built.from + r.built.count

  long : length first ≡ r.image.count
  long = length_part r.image.from r.image.count image (omega (arith, from.in_image))

  pool_length : made ≤ length bytes → length text ≡ r.image.count + r.built.count
  pool_length enough =
      ap length (from.is image bytes whole)
      ∙ length-append first (bytes_of r.built bytes)
      ∙ ap₂ ◌+◌ long (length_part r.built.from r.built.count bytes (omega (arith, from.in_built)))

  module _ (at : ℕ) (before : made ≤ at) where
    pub pool_none : length bytes < at + (r.image.count + r.built.count) → (None ≡ end_of bytes at text) × (bytes ≡ put_of bytes at text)
    pool_none over = go (dec_le made (length bytes))
      where
        go : Dec (made ≤ length bytes) → (None ≡ end_of bytes at text) × (bytes ≡ put_of bytes at text)
        go (yes p) = no_room bytes at text (omega (arith, pool_length p))
        go (no p) = no_room bytes at text (omega arith)

    -- what was built stands before the copies
    pub pool_all : (bytes₁ bytes₂ : List ℕ) → at + (r.image.count + r.built.count) ≤ length bytes
        → bytes₁ ≡ put_of bytes at first → bytes₂ ≡ copy_within bytes₁ r.built.from end (at + r.image.count)
        → (Some (at + (r.image.count + r.built.count)) ≡ end_of bytes at text) × (bytes₂ ≡ put_of bytes at text)
    pool_all bytes₁ bytes₂ within e₁ e₂ =
        let count = r.image.count + r.built.count in
        let size : length text ≡ count = pool_length (omega arith) in
        let before_it = take at bytes ++ first in
        let wide : length before_it ≡ at + r.image.count =
        length-append (take at bytes) first ∙ ap₂ ◌+◌ (length-take-le at bytes (omega arith)) long in
        let laid : bytes₁ ≡ before_it ++ drop (at + r.image.count) bytes =
        e₁ ∙ put_is bytes at first r.image.count long (omega arith) in
        let front : take (at + r.image.count) bytes₁ ≡ before_it = ap (take (at + r.image.count)) laid ∙ take_at before_it _ _ wide in
        let built = bytes_of r.built bytes in
        let middle : take (end - r.built.from) (drop r.built.from bytes₁) ≡ built =
        ap (λ (k : ℕ). take k (drop r.built.from bytes₁)) (omega arith)
        ∙ sym (drop-take r.built.from r.built.count bytes₁)
        ∙ ap (drop r.built.from) (ap (take end) e₁ ∙ take_put bytes at first end (omega (arith, from.in_built))) in
        let rest : drop (at + r.image.count + (end - r.built.from)) bytes₁ ≡ drop (at + count) bytes =
        ap₂ drop (omega arith) laid ∙ drop-append-drop (at + r.image.count) bytes before_it (at + count) (omega arith) wide in (
          end_is bytes at text count size within,
          e₂
              ∙ ap₂ ◌++◌ (ap₂ ◌++◌ front middle) rest
              ∙ ap (λ (l : List ℕ). l ++ drop (at + count) bytes)
              (append_assoc (take at bytes) first built ∙ ap (λ (l : List ℕ). take at bytes ++ l) (sym (from.is image bytes whole)))
              ∙ sym (put_is bytes at text count size within),
        )
