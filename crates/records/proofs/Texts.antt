-- The image's text: it is the part of the image that is lent, and a part of it is a part of the image. Assumes nothing.
use mathlib.Core.Path.{◌≡◌, refl, sym, ap, ◌∙◌}
use mathlib.Core.Bool.{true, and-eq-true_iff}
use mathlib.Core.List.{List}
use Prim.Native.Nat.{ℕ, ◌+◌, ◌-◌, ◌≤◌}
use native.Mathlib.Omega.{arith}
use borrow.Author.Tests.{leb-true}
use lib.Dec.{leb, eqb}
use lib.ListN.{length, take, drop}
use lib.Seq.{slice, length-take-le, take-take, drop-drop}
use Rattle.utf8.proofs.Runs.{slice_is}
use Rattle.packed.specs.declared.layout.Header.{Header}
use Rattle.packed.specs.declared.layout.Part.{Part}
use Rattle.packed.specs.Layout.{text_at, size_of}
use Rattle.records.specs.Records.{image_text, part_good, part_of}

slice_slice : (from to at end : ℕ) (l : List ℕ) → at + to ≤ end → end ≤ length l → slice from to (slice at end l) ≡ slice (at + from) (at + to) l
slice_slice from to at end l inner outer =
    let front = take end l in
    let long = length-take-le end l outer in
    let size : at + to - at ≡ to = omega arith in
    let lent : take to (drop at front) ≡ drop at (take (at + to) l) =
    ap (λ (n : ℕ). take n (drop at front)) (sym size) ∙ sym (slice_is at (at + to) front (omega arith) (omega arith)) ∙ ap (drop at) (take-take (at + to) end l inner) in
    ap (drop from) lent ∙ drop-drop from at (take (at + to) l)

module _ (image : List ℕ) (h : Header) (whole : size_of h ≤ length image) where
  pub text_lent : (at end : ℕ) → at ≡ text_at h → end ≡ size_of h → take (end - at) (drop at image) ≡ image_text image h
  text_lent at end a e = rw (a, e) (sym (slice_is (text_at h) (size_of h) image (omega arith) whole))

  pub text_part : (p : Part) → part_good h p ≡ true → slice p.start (p.start + p.length) (image_text image h) ≡ part_of image h p
  unfolding part_good part_of
  text_part p good =
      let inside = leb-true (p.start + p.length) h.text ((and-eq-true_iff (eqb p.zero 0) (leb (p.start + p.length) h.text)).0 good).1 in
      let e : text_at h + (p.start + p.length) ≡ text_at h + p.start + p.length = omega arith in
      slice_slice p.start (p.start + p.length) (text_at h) (size_of h) image (omega arith) whole ∙ rw e refl
