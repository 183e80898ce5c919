-- Text that was built keeps its content when more is built after it. Assumes nothing.
use Prim.Native.Nat.{ℕ, ◌+◌, ◌≤◌}
use native.Mathlib.Omega.{arith}
use mathlib.Core.Path.{◌≡◌, ◌∙◌}
use mathlib.Core.List.{List, ◌++◌, append_assoc}
use lib.ListN.{length, length-append}
use lib.Seq.{length-slice, take-append-le}
use Rattle.packed.specs.declared.layout.Header.{Header}
use Rattle.packed.specs.Layout.{text_at, size_of}
use Rattle.rules.specs.Store.{Store, with_text, image_text, text_of}

module _ (image : List ℕ) (h : Header) (σ : Store) (whole : size_of h ≤ length image) where
  image_text_length : length (image_text image h) ≡ h.text
  image_text_length = length-slice (text_at h) (size_of h) image whole ∙ omega arith

  pub text_kept : (more : List ℕ) (start len : ℕ) → start + len ≤ h.text + length σ.text
      → text_of image h (with_text (σ.text ++ more) σ) start len ≡ text_of image h σ start len
  unfolding text_of
  text_kept more start len within =
      let all = image_text image h ++ σ.text in
      let inside : start + len ≤ length all = omega (arith, length-append (image_text image h) σ.text, image_text_length) in
      rw (← append_assoc, take-append-le (start + len) all more inside)
