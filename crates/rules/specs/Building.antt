-- What nodes build of their operands: binary operations, vec, tuple, object and template (01 'Evaluation' and 'Our additions').
use Rattle.std.specs.Prelude.{Result, Ok, Err, ℕ, ◌+◌, ◌%◌, ◌^◌, Bool, true, false, cond, List, [], ◌∷◌, ◌++◌, map, leb, eqb, ℤ, Float, length}
use Rattle.std.proofs.Math.Option.{Option, some, none}
use Rattle.packed.specs.declared.layout.Header.{Header}
use Rattle.packed.specs.Layout.{node_at, literal_at}
use Rattle.numbers.specs.declared.ArithRefusal.{ArithRefusal}
use Rattle.numbers.specs.declared.ArithRefusal.TheVariants.{Overflow, Division, ShiftOperand}
use Rattle.numbers.specs.declared.Number.{Number}
use Rattle.numbers.specs.declared.Number.TheVariants.{Signed as NSigned, Float as NFloat, Bool as NBool}
use Rattle.numbers.specs.declared.OpError.{OpError}
use Rattle.numbers.specs.declared.OpError.TheVariants.{Arithmetic as OArithmetic, NotConst as ONotConst, Unlisted}
use Rattle.numbers.specs.Ints.{binary_int_of}
use Rattle.numbers.specs.Floats.{binary_float_of, float_of}
use Rattle.numbers.specs.Words.{int_of}
use Rattle.numbers.specs.Decimal.{decimal_of}
use Rattle.rules.specs.declared.Value.{Value}
use Rattle.rules.specs.declared.Value.TheVariants.{Unit as VUnit, Bool as VBool, Char, Unsigned, Signed, Float as VFloat, Text, Bytes, Vec, Tuple, Object}
use Rattle.rules.specs.declared.Refusal.{Refusal}
use Rattle.rules.specs.declared.Refusal.TheVariants.{Cells, TextBytes, NotConst, Arithmetic, FloatInTemplate}
use Rattle.rules.specs.Store.{Cell, head, item, entry, Store, with_text, most_text, text_of, start_of, length_of, part_text, literal_text, same_text, as_signed, as_float, as_text}

-- what a node gives: a value, or a refusal and its place
pub data Made : Type 0 where
  gives : Value → Store → Made
  refuses : Refusal → ℕ → Made

-- "0 unit, 1 bool, 2 unsigned, 3 signed, 4 float bits, 5 char, 6 text, 7 bytes"
unfoldable pub literal_of : ℕ → ℕ → Value
literal_of kind payload =
    cond (eqb kind 1) (VBool (eqb payload 1))
    (cond (eqb kind 2) (Unsigned payload)
    (cond (eqb kind 3) (Signed (int_of payload))
    (cond (eqb kind 4) (VFloat (float_of payload))
    (cond (eqb kind 5) (Char (payload % 2 ^ 32))
    (cond (eqb kind 6) (Text (start_of payload) (length_of payload))
    (cond (eqb kind 7) (Bytes (start_of payload) (length_of payload)) VUnit))))))

-- ---- vec and tuple: "vec or tuple of n takes 1+n"

abbrev pub boxed : ℕ → Value → Option Store → Made
boxed n v none = refuses Cells n
boxed n v (some σ) = gives v σ

-- the items follow their head, whose number is the handle
abbrev pub item_cells : Store → List Value → List Cell
item_cells σ vs = head (length vs) ∷ map (item (length σ.cells)) vs

-- an object's entries stand after its head, each with its key
abbrev pub entry_cells : Store → List (ℕ × Value) → List Cell
entry_cells σ es = head 0 ∷ map (λ e. entry (length σ.cells) e.0 e.1) es

-- ---- template: what a bool prints, and why a value does not print

abbrev pub bool_text : Bool → List ℕ
bool_text true = 116 ∷ 114 ∷ 117 ∷ 101 ∷ []
bool_text false = 102 ∷ 97 ∷ 108 ∷ 115 ∷ 101 ∷ []

abbrev pub unprinted : Option Float → Refusal
unprinted none = NotConst
unprinted (some x) = FloatInTemplate

abbrev pub or_nothing : Option (List ℕ) → List ℕ
or_nothing none = []
or_nothing (some bytes) = bytes

module _ (image : List ℕ) (h : Header) where
  -- ---- literals

  unfoldable pub literal_value : ℕ → Value
  literal_value l = literal_of (literal_at image h l).kind (literal_at image h l).payload

  -- ---- text: "joins and templates take their length", all or nothing

  unfoldable pub built_text : ℕ → Store → List ℕ → Made
  built_text n σ bytes =
      cond (leb (length σ.text + length bytes) most_text)
      (gives (Text (h.text + length σ.text) (length bytes)) (with_text (σ.text ++ bytes) σ))
      (refuses TextBytes n)

  -- ---- binary

  -- "16, 17: binary; 18: right operand"
  abbrev pub arith_place : ℕ → ArithRefusal → ℕ
  arith_place n Overflow = n
  arith_place n Division = n
  arith_place n ShiftOperand = (node_at image h n).b

  abbrev pub of_numbers : ℕ → Store → Result Number OpError → Made
  of_numbers n σ (Ok (NSigned z)) = gives (Signed z) σ
  of_numbers n σ (Ok (NFloat x)) = gives (VFloat x) σ
  of_numbers n σ (Ok (NBool b)) = gives (VBool b) σ
  of_numbers n σ (Err (OArithmetic why)) = refuses (Arithmetic why) (arith_place n why)
  of_numbers n σ (Err ONotConst) = refuses NotConst n
  of_numbers n σ (Err Unlisted) = refuses NotConst n

  -- "both text, + joins. Anything else is 12"
  abbrev pub of_texts : ℕ → Store → Option (ℕ × ℕ) → Option (ℕ × ℕ) → Made
  of_texts n σ none v = refuses NotConst n
  of_texts n σ (some u) none = refuses NotConst n
  of_texts n σ (some u) (some v) =
      cond (eqb (node_at image h n).op 0)
      (built_text n σ (text_of image h σ u.0 u.1 ++ text_of image h σ v.0 v.1))
      (refuses NotConst n)

  -- "if both are float, all but shifts"
  abbrev pub of_floats : ℕ → Made → Option Float → Option Float → Store → Made
  of_floats n other none v σ = other
  of_floats n other (some x) none σ = other
  of_floats n other (some x) (some y) σ = of_numbers n σ (binary_float_of (node_at image h n).op x y)

  -- "If both operands are signed, all ops"
  abbrev pub of_signeds : ℕ → Made → Option ℤ → Option ℤ → Store → Made
  of_signeds n other none v σ = other
  of_signeds n other (some x) none σ = other
  of_signeds n other (some x) (some y) σ = of_numbers n σ (binary_int_of (node_at image h n).op x y)

  unfoldable pub binary_of : ℕ → Value → Value → Store → Made
  binary_of n u v σ =
      of_signeds n
      (of_floats n (of_texts n σ (as_text u) (as_text v)) (as_float u) (as_float v) σ)
      (as_signed u) (as_signed v) σ

  -- ---- object: "1, and 1 for each new key"; "An entry met again replaces its value"

  unfoldable pub entered : List (ℕ × Value) → ℕ → Value → List (ℕ × Value)
  entered [] key v = (key, v) ∷ []
  entered (e ∷ es) key v =
      cond (same_text (part_text image h e.0) (part_text image h key)) ((e.0, v) ∷ es) (e ∷ entered es key v)

  -- the entries of a chain of entry nodes and their values, one after the other
  unfoldable pub entries : List ℕ → List Value → List (ℕ × Value) → List (ℕ × Value)
  entries [] vs es = es
  entries (i ∷ is) [] es = es
  entries (i ∷ is) (v ∷ vs) es = entries is vs (entered es (literal_at image h (node_at image h i).a).payload v)

  -- ---- template: "signed in decimal, bool as true or false, text as it is; float 25 (ours); all else 12"

  -- what a component prints, or why it does not
  abbrev pub printed : Store → Value → Option (List ℕ)
  printed σ VUnit = none
  printed σ (VBool b) = some (bool_text b)
  printed σ (Char c) = none
  printed σ (Unsigned x) = none
  printed σ (Signed z) = some (decimal_of z)
  printed σ (VFloat x) = none
  printed σ (Text s l) = some (text_of image h σ s l)
  printed σ (Bytes s l) = none
  printed σ (Vec c) = none
  printed σ (Tuple c) = none
  printed σ (Object c) = none

  -- the text of a chain of components and the values of those that are not kind 17, one after the other
  unfoldable pub template_text : Store → List ℕ → List Value → List ℕ
  template_text σ [] vs = []
  template_text σ (i ∷ is) [] = cond (eqb (node_at image h i).kind 17) (literal_text image h (node_at image h i).a ++ template_text σ is []) []
  template_text σ (i ∷ is) (v ∷ vs) =
      cond (eqb (node_at image h i).kind 17)
      (literal_text image h (node_at image h i).a ++ template_text σ is (v ∷ vs))
      (or_nothing (printed σ v) ++ template_text σ is vs)
