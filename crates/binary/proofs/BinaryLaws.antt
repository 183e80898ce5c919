-- What is made of two numbers, and what becomes of it after the right operand. Assumes nothing.
use Prim.Native.Nat.{ℕ}
use mathlib.Core.Path.{◌≡◌, refl}
use mathlib.Core.List.{List, [], ◌∷◌}
use lib.IntN.{ℤ}
use Rattle.std.specs.Prelude.{Result, Ok, Err}
use Rattle.packed.specs.declared.layout.Header.{Header}
use Rattle.packed.specs.declared.layout.Node.{Node}
use Rattle.packed.specs.Layout.{node_at}
use Rattle.numbers.specs.declared.ArithRefusal.TheVariants.{Overflow, Division, ShiftOperand}
use Rattle.numbers.specs.declared.Number.{Number}
use Rattle.numbers.specs.declared.Number.TheVariants.{Signed as NSigned, Float as NFloat, Bool as NBool}
use Rattle.numbers.specs.declared.OpError.{OpError}
use Rattle.numbers.specs.declared.OpError.TheVariants.{Arithmetic as ArithmeticError, NotConst, Unlisted}
use Rattle.numbers.specs.Ints.{binary_int_of}
use Rattle.rules.specs.declared.Value.{Value}
use Rattle.rules.specs.declared.Value.TheVariants.{Signed, Text}
use Rattle.rules.specs.declared.Refused.{Refused}
use Rattle.rules.specs.Store.{Store}
use Rattle.rules.specs.Building.{of_numbers, binary_of}
use Rattle.rules.specs.Machine.{right_of}
use Rattle.rules.proofs.Moves.{operation_made}
use Rattle.stores.specs.Stores.{made_by, Makes, Fits}
use Rattle.outcomes.specs.declared.Outcome.{Outcome}
use Rattle.outcomes.specs.declared.Outcome.TheVariants.{Done}
use Rattle.outcomes.specs.Outcomes.{got_of}
use Rattle.binary.specs.Binary.{got_of_numbers, text_pair}
use Rattle.texts.specs.Text.{joined}
use borrow.Author.Tests.{eq-eqb}
use Rattle.outcomes.specs.Post.{After}
use Rattle.stores.specs.declared.run.Run.{Run}
use Rattle.outcomes.proofs.Ways.{made_post}

-- ---- what is made of two numbers

module _ (image : List ℕ) (h : Header) (n : ℕ) (σ : Store) where
  numbers_made : (r : Result Number OpError) → of_numbers image h n σ r ≡ made_by (got_of_numbers n (node_at image h n).b r) σ
  numbers_made (Ok (NSigned z)) = refl
  numbers_made (Ok (NFloat x)) = refl
  numbers_made (Ok (NBool b)) = refl
  numbers_made (Err (ArithmeticError Overflow)) = refl
  numbers_made (Err (ArithmeticError Division)) = refl
  numbers_made (Err (ArithmeticError ShiftOperand)) = refl
  numbers_made (Err NotConst) = refl
  numbers_made (Err Unlisted) = refl

-- both are signed; d is node n
pub signeds : (image : List ℕ) (h : Header) (n : ℕ) {left right : Value} {run : Run} {words bytes : List ℕ} {x y : ℤ} (d : Node) → d ≡ node_at image h n → left ≡ Signed x → right ≡ Signed y → Fits run words
    → Makes (got_of_numbers n d.b (binary_int_of d.op x y)) (binary_of image h n left right) run words bytes run words bytes
unfolding binary_of
signeds image h n {x = x} {y = y} d node l r fits =
    record {
      did = rw (l, r, node) (numbers_made image h n _ (binary_int_of (node_at image h n).op x y));
      undone = λ e z. refl;
      kept = record { fits = fits; room = refl; takes = refl };
    }

-- both are text, and joined
pub joins : (image : List ℕ) (h : Header) (n : ℕ) {left right : Value} {run : Run} {words bytes : List ℕ} {run' : Run} {words' bytes' : List ℕ} {start len start' len' : ℕ} {got : Result Value Refused} (d : Node) → d ≡ node_at image h n
    → left ≡ Text start len → right ≡ Text start' len' → d.op ≡ 0 → Makes got (joined image h n start len start' len') run words bytes run' words' bytes'
    → Makes got (text_pair image h n left right) run words bytes run' words' bytes'
joins image h n d node l r op m = record { did = rw (l, r, eq-eqb _ _ (rw node at op)) m.did; undone = m.undone; kept = m.kept }

-- ---- after the right operand

pub operated : {image : List ℕ} {h : Header} {n : ℕ} {left right : Value} {one r : Outcome} {got : Result Value Refused} {run : Run} {words bytes : List ℕ} {run' : Run} {words' bytes' : List ℕ}
    → one ≡ Done right → Makes got (binary_of image h n left right) run words bytes run' words' bytes' → got_of got ≡ r
    → After image h (right_of n left ∷ []) one run words bytes run' words' bytes' r
operated e made z = rw (e, ← z) (record { ways = made_post (λ K. operation_made refl) made })
