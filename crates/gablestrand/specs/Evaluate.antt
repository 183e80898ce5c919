-- One call, for every input: the answer, and what stands in the three lent slices afterwards.
use Rattle.std.specs.Prelude.{ℕ, zero, suc, ◌≤◌, ◌<◌, ◌≡◌, ◌⊎◌, List, [], ◌∷◌, ◌++◌, length, drop, Ok, Err}
use Rattle.packed.specs.declared.layout.Header.{Header}
use Rattle.image.specs.declared.LoadError.{LoadError}
use Rattle.image.specs.Load.{load_of}
use Rattle.rules.specs.declared.Answer.{Answer}
use Rattle.rules.specs.declared.Answer.TheVariants.{Value, Refused, Spent, NotLoaded, StoreTooShort}
use Rattle.rules.specs.Answer.{number_of, place_of, steps_of}
use Rattle.rules.specs.Runs.{start, Budgeted}

-- "Word store at least 8,192 words, byte store at least 16,384"
abbrev pub store_words : ℕ
store_words = 8192

abbrev pub store_bytes : ℕ
store_bytes = 16384

abbrev pub LongEnough : List ℕ → List ℕ → Type 0
LongEnough words bytes = (store_words ≤ length words) × (store_bytes ≤ length bytes)

abbrev pub TooShort : List ℕ → List ℕ → Type 0
TooShort words bytes = (length words < store_words) ⊎ (length bytes < store_bytes)

-- "Afterwards those first parts are zero, the rest untouched"
unfoldable pub zeros : ℕ → List ℕ
zeros zero = []
zeros (suc n) = 0 ∷ zeros n

unfoldable pub cleared : ℕ → List ℕ → List ℕ
cleared n l = zeros n ++ drop n l

-- the refusals 1 to 4, or what the rules and the budget give
pub data Decided (image : List ℕ) (budget : ℕ) (out : List ℕ) : Answer → List ℕ → Type 0 where
  unloaded : {error : LoadError} → load_of image ≡ Err error → Decided image budget out (NotLoaded error) out
  loaded : {h : Header} {answer : Answer} {out' : List ℕ} → load_of image ≡ Ok h → Budgeted image h out (start image h) budget answer out'
      → Decided image budget out answer out'

-- "except after 5, which touches nothing"
pub data Evaluated (image : List ℕ) (budget : ℕ) (words bytes out : List ℕ) : Answer → List ℕ → List ℕ → List ℕ → Type 0 where
  short : TooShort words bytes → Evaluated image budget words bytes out StoreTooShort words bytes out
  long : {answer : Answer} {out' : List ℕ} → LongEnough words bytes → Decided image budget out answer out'
      → Evaluated image budget words bytes out answer (cleared store_words words) (cleared store_bytes bytes) out'

-- the bytes of a value; 0 for a refusal
abbrev pub length_of : Answer → ℕ
length_of (Value length steps) = length
length_of (Refused why place steps) = 0
length_of (Spent place steps) = 0
length_of (NotLoaded error) = 0
length_of StoreTooShort = 0

-- the same in four numbers
pub record Told (image : List ℕ) (budget : ℕ) (words bytes out : List ℕ) (number place steps long : ℕ) (words' bytes' out' : List ℕ) : Type 0 where
  pub answer : Answer
  pub evaluated : Evaluated image budget words bytes out answer words' bytes' out'
  pub the_number : number ≡ number_of answer
  pub the_place : place ≡ place_of answer
  pub the_steps : steps ≡ steps_of answer
  pub the_length : long ≡ length_of answer
