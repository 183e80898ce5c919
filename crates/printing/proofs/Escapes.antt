-- The three ways in which a byte stands between quotes. Assumes nothing.
use mathlib.Core.Path.{◌≡◌, sym, ap, ◌∙◌}
use mathlib.Core.Bool.{Bool, true, false}
use mathlib.Core.List.{[], ◌∷◌}
use Prim.Native.Nat.{ℕ}
use borrow.Author.Tests.{eq-eqb, ne_eqb}
use Rattle.printing.specs.Page.{Page, with_byte, with_bytes, hex_of, marked, letter_of, is_printable, escape_of}
use Rattle.printing.proofs.Pages.{in_two}

module _ (quote b letter : ℕ) (is : letter ≡ letter_of quote b) (p q : Page) where
  pub by_letter : (letter ≡ 0 → ⊥) → q ≡ with_bytes p (marked letter) → q ≡ with_bytes p (escape_of quote b)
  unfolding escape_of
  by_letter h e = rw (← is, ne_eqb letter 0 h) e

  pub by_itself : letter ≡ 0 → (t : Bool) → t ≡ is_printable b → t ≡ true → q ≡ with_byte p b → q ≡ with_bytes p (escape_of quote b)
  unfolding escape_of with_bytes
  by_itself h t e f g = rw (← is, eq-eqb letter 0 h, ← e, f) g

  pub by_number : letter ≡ 0 → (t : Bool) → t ≡ is_printable b → t ≡ false → (r : Page) → r ≡ with_bytes p (marked 120) → q ≡ with_bytes r (hex_of (b ∷ [])) → q ≡ with_bytes p (escape_of quote b)
  unfolding escape_of
  by_number h t e f r x y = rw (← is, eq-eqb letter 0 h, ← e, f) (y ∙ ap (λ (z : Page). with_bytes z (hex_of (b ∷ []))) x ∙ sym (in_two p (marked 120) (hex_of (b ∷ []))))
