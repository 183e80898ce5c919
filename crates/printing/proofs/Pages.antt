-- Laws of pages: text that is written in two parts, and one more byte of a text that a loop goes through. Assumes nothing.
use mathlib.Core.Path.{◌≡◌, refl, sym, ap, ◌∙◌}
use mathlib.Core.List.{List, [], ◌∷◌, ◌++◌, append_assoc}
use Prim.Native.Nat.{ℕ, ◌+◌, ◌/◌, ◌%◌, ◌≤◌, ◌<◌}
use native.Mathlib.Numerals.{add-one}
use borrow.Author.Tests.{lt-ltb, le-ltb}
use lib.ListN.{length, take, get_or, set}
use lib.Seq.{take-suc}
use Rattle.printing.specs.Page.{Page, page, with_byte, with_bytes, hex_of}
use Rattle.io.specs.Digits.{last_digits, hex_digit_ascii}

pub room : (bytes : List ℕ) (n b : ℕ) → n < length bytes → page (set bytes n b) (n + 1) ≡ with_byte (page bytes n) b
unfolding with_byte
room bytes n b h = simp (lt-ltb n (length bytes) h)

pub no_room : (bytes : List ℕ) (n b : ℕ) → length bytes ≤ n → page bytes n ≡ with_byte (page bytes n) b
unfolding with_byte
no_room bytes n b h = simp (le-ltb n (length bytes) h)

pub in_two : (p : Page) (s t : List ℕ) → with_bytes p (s ++ t) ≡ with_bytes (with_bytes p s) t
unfolding with_bytes
in_two p [] t = refl
in_two p (b ∷ s) t = in_two (with_byte p b) s t

pub two : (p q r : Page) (a b : ℕ) → q ≡ with_byte p a → r ≡ with_byte q b → r ≡ with_bytes p (a ∷ b ∷ [])
unfolding with_bytes
two p q r a b e f = f ∙ ap (λ (x : Page). with_byte x b) e

-- a byte's two digits, one after the other
pub hex_one : (p q r : Page) (b d e : ℕ) → d ≡ hex_digit_ascii (b / 16 % 16) → q ≡ with_byte p d → e ≡ hex_digit_ascii (b % 16) → r ≡ with_byte q e → r ≡ with_bytes p (hex_of (b ∷ []))
unfolding hex_of
hex_one p q r b d e x f y g = rw (← x, ← y) (two p q r d e f g)

pub hex_in_two : (s t : List ℕ) → hex_of (s ++ t) ≡ hex_of s ++ hex_of t
unfolding hex_of
hex_in_two [] t = refl
hex_in_two (b ∷ s) t = ap (λ (l : List ℕ). last_digits 16 2 b ++ l) (hex_in_two s t) ∙ sym (append_assoc (last_digits 16 2 b) (hex_of s) (hex_of t))

-- one byte more of a text that is written byte by byte, by any rule f
pub one_more : (f : List ℕ → List ℕ) (text : List ℕ) → ((s t : List ℕ) → f (s ++ t) ≡ f s ++ f t) → (p q r : Page) (i : ℕ) → i < length text → q ≡ with_bytes p (f (take i text)) → r ≡ with_bytes q (f (get_or text i 0 ∷ [])) → r ≡ with_bytes p (f (take (i + 1) text))
one_more f text f-two p q r i h e g =
    g
    ∙ ap (λ (x : Page). with_bytes x (f (get_or text i 0 ∷ []))) e
    ∙ sym (in_two p (f (take i text)) (f (get_or text i 0 ∷ [])))
    ∙ ap (with_bytes p) (sym (f-two (take i text) (get_or text i 0 ∷ [])))
    ∙ ap (λ (l : List ℕ). with_bytes p (f l)) (sym (take-suc text i 0 h) ∙ ap (λ (n : ℕ). take n text) (sym (add-one i)))
