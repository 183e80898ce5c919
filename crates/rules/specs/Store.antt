-- The store that the rules speak of: cells, text, bindings and pending items, each a list. No word and no byte store is in it.
use Rattle.std.specs.Prelude.{ℕ, suc, ◌+◌, ◌/◌, ◌%◌, ◌^◌, Bool, true, false, ◌&&◌, cond, List, [], ◌∷◌, ◌++◌, leb, ltb, eqb, ℤ, Float, length, get_or, set, take, drop}
use Rattle.std.proofs.Math.Option.{Option, some, none}
use Rattle.std.proofs.Math.Seq.{slice}
use Rattle.packed.specs.declared.layout.Header.{Header}
use Rattle.packed.specs.Layout.{text_at, literal_at}
use Rattle.rules.specs.declared.Value.{Value}
use Rattle.rules.specs.declared.Value.TheVariants.{Unit as VUnit, Bool as VBool, Char, Unsigned, Signed, Float as VFloat, Text, Bytes, Vec, Tuple, Object}

-- "1,024 cells; 16,384 text bytes; 256 live bindings; 512 pending"
abbrev pub most_cells : ℕ
most_cells = 1024

abbrev pub most_text : ℕ
most_text = 16384

abbrev pub most_bindings : ℕ
most_bindings = 256

abbrev pub most_pending : ℕ
most_pending = 512

-- A handle is the number of a head. The items of a vec or tuple follow it, and it has their count; the entries of an object are those with it as owner, and a
-- key is the payload of a text literal.
pub data Cell : Type 0 where
  head : ℕ → Cell
  item : ℕ → Value → Cell
  entry : ℕ → ℕ → Value → Cell

pub record Binding : Type 0 where
  pub name : ℕ
  pub value : Value

pub record Store : Type 0 where
  pub cells : List Cell
  -- the bytes of text built in this run
  pub text : List ℕ
  pub bindings : List Binding
  -- where the innermost scope begins, and the called function's argument scope
  pub scope : ℕ
  pub floor : ℕ
  pub pending : List Value

-- "A run starts with one scope open"
abbrev pub empty : Store
empty = record { cells = []; text = []; bindings = []; scope = 0; floor = 0; pending = [] }

-- the store with one part replaced
abbrev pub with_cells : List Cell → Store → Store
with_cells cs σ =
    record { cells = cs; text = σ.text; bindings = σ.bindings; scope = σ.scope; floor = σ.floor; pending = σ.pending }

abbrev pub with_text : List ℕ → Store → Store
with_text t σ =
    record { cells = σ.cells; text = t; bindings = σ.bindings; scope = σ.scope; floor = σ.floor; pending = σ.pending }

abbrev pub with_pending : List Value → Store → Store
with_pending ps σ =
    record { cells = σ.cells; text = σ.text; bindings = σ.bindings; scope = σ.scope; floor = σ.floor; pending = ps }

abbrev pub with_bindings : List Binding → Store → Store
with_bindings bs σ =
    record { cells = σ.cells; text = σ.text; bindings = bs; scope = σ.scope; floor = σ.floor; pending = σ.pending }

abbrev pub with_scope : ℕ → Store → Store
with_scope s σ =
    record { cells = σ.cells; text = σ.text; bindings = σ.bindings; scope = s; floor = σ.floor; pending = σ.pending }

abbrev pub with_floor : ℕ → Store → Store
with_floor f σ =
    record { cells = σ.cells; text = σ.text; bindings = σ.bindings; scope = σ.scope; floor = f; pending = σ.pending }

-- ---- scopes

abbrev pub opened : Store → Store
opened σ = with_scope (length σ.bindings) σ

-- its bindings are given back
abbrev pub emptied : Store → Store
emptied σ = with_bindings (take σ.scope σ.bindings) σ

-- the scope before begins at s
abbrev pub closed : ℕ → Store → Store
closed s σ = with_scope s (emptied σ)

-- ---- names

abbrev pub or_else : {A : Type 0} → Option A → Option A → Option A
or_else (some a) b = some a
or_else none b = b

-- the number of the last binding of that name, the first of the list having number i
unfoldable pub last_of : ℕ → ℕ → List Binding → Option ℕ
last_of name i [] = none
last_of name i (b ∷ bs) = or_else (last_of name (suc i) bs) (cond (eqb b.name name) (some i) none)

-- "A name is sought from the innermost scope outward and no further than the called function's argument scope"
abbrev pub sought : Store → ℕ → Option ℕ
sought σ name = last_of name σ.floor (drop σ.floor σ.bindings)

abbrev pub unbound : Binding
unbound = record { name = 0; value = VUnit }

abbrev pub bound_at : Store → ℕ → Value
bound_at σ i = (get_or σ.bindings i unbound).value

abbrev pub rebound : Store → ℕ → Value → Store
rebound σ i v = with_bindings (set σ.bindings i (record { name = (get_or σ.bindings i unbound).name; value = v })) σ

-- "Decl of a name already in its scope replaces"; else one binding more, of which there are 256
abbrev pub declared_at : Store → ℕ → Value → Option ℕ → Option Store
declared_at σ name v (some i) = some (rebound σ i v)
declared_at σ name v none =
    cond (ltb (length σ.bindings) most_bindings)
    (some (with_bindings (σ.bindings ++ (record { name = name; value = v } ∷ [])) σ))
    none

unfoldable pub declared : Store → ℕ → Value → Option Store
declared σ name v = declared_at σ name v (last_of name σ.scope (drop σ.scope σ.bindings))

-- a call's arguments, bound to consecutive names
abbrev pub arguments : ℕ → List Value → List Binding
arguments first [] = []
arguments first (v ∷ vs) = record { name = first; value = v } ∷ arguments (suc first) vs

-- ---- pending items, in the order in which they were evaluated

abbrev pub pushed : Value → Store → Store
pushed v σ = with_pending (σ.pending ++ (v ∷ [])) σ

-- those past the first p are given back
abbrev pub dropped : ℕ → Store → Store
dropped p σ = with_pending (take p σ.pending) σ

-- ---- text: a place and a length in the image's text and, after it, the text built in this run

abbrev pub image_text : List ℕ → Header → List ℕ
image_text image h = slice (text_at h) (text_at h + h.text) image

unfoldable pub text_of : List ℕ → Header → Store → ℕ → ℕ → List ℕ
text_of image h σ start len = slice start (start + len) (image_text image h ++ σ.text)

-- "the payload is zero 32, start 16, length 16 within the text"
abbrev pub start_of : ℕ → ℕ
start_of payload = payload / 2 ^ 16 % 2 ^ 32

abbrev pub length_of : ℕ → ℕ
length_of payload = payload % 2 ^ 16

unfoldable pub part_text : List ℕ → Header → ℕ → List ℕ
part_text image h payload = slice (start_of payload) (start_of payload + length_of payload) (image_text image h)

-- the text of a literal
abbrev pub literal_text : List ℕ → Header → ℕ → List ℕ
literal_text image h l = part_text image h (literal_at image h l).payload

abbrev pub same_text : List ℕ → List ℕ → Bool
same_text [] [] = true
same_text [] (y ∷ ys) = false
same_text (x ∷ xs) [] = false
same_text (x ∷ xs) (y ∷ ys) = eqb x y && same_text xs ys

-- ---- vec, tuple and object

-- what is left of an object's cells, i their first number: the number of the first entry of that owner whose key has that text
unfoldable pub entry_at : List ℕ → Header → ℕ → List ℕ → ℕ → List Cell → Option ℕ
entry_at image h owner key i [] = none
entry_at image h owner key i (head n ∷ cs) = entry_at image h owner key (suc i) cs
entry_at image h owner key i (item o v ∷ cs) = entry_at image h owner key (suc i) cs
entry_at image h owner key i (entry o k v ∷ cs) =
    cond (eqb o owner && same_text (part_text image h k) key) (some i) (entry_at image h owner key (suc i) cs)

abbrev pub field_at : List ℕ → Header → Store → ℕ → ℕ → Option ℕ
field_at image h σ owner l = entry_at image h owner (literal_text image h l) 0 σ.cells

abbrev pub count_in : Cell → ℕ
count_in (head n) = n
count_in (item o v) = 0
count_in (entry o k v) = 0

-- the number of the cell of item i
unfoldable pub item_at : Store → ℕ → ℕ → Option ℕ
item_at σ owner i = cond (ltb i (count_in (get_or σ.cells owner (head 0)))) (some (owner + 1 + i)) none

abbrev pub value_in : Cell → Value
value_in (head n) = VUnit
value_in (item o v) = v
value_in (entry o k v) = v

abbrev pub cell_at : Store → ℕ → Value
cell_at σ i = value_in (get_or σ.cells i (head 0))

abbrev pub holding : Value → Cell → Cell
holding v (head n) = head n
holding v (item o u) = item o v
holding v (entry o k u) = entry o k v

abbrev pub stored_at : Store → ℕ → Value → Store
stored_at σ i v = with_cells (set σ.cells i (holding v (get_or σ.cells i (head 0)))) σ

-- cells are taken all or none, and never given back
abbrev pub taken_cells : Store → List Cell → Option Store
taken_cells σ cs = cond (leb (length σ.cells + length cs) most_cells) (some (with_cells (σ.cells ++ cs) σ)) none

-- ---- which of its kinds a value is

abbrev pub as_bool : Value → Option Bool
as_bool VUnit = none
as_bool (VBool b) = some b
as_bool (Char c) = none
as_bool (Unsigned x) = none
as_bool (Signed z) = none
as_bool (VFloat x) = none
as_bool (Text s l) = none
as_bool (Bytes s l) = none
as_bool (Vec c) = none
as_bool (Tuple c) = none
as_bool (Object c) = none

abbrev pub as_signed : Value → Option ℤ
as_signed VUnit = none
as_signed (VBool b) = none
as_signed (Char c) = none
as_signed (Unsigned x) = none
as_signed (Signed z) = some z
as_signed (VFloat x) = none
as_signed (Text s l) = none
as_signed (Bytes s l) = none
as_signed (Vec c) = none
as_signed (Tuple c) = none
as_signed (Object c) = none

abbrev pub as_float : Value → Option Float
as_float VUnit = none
as_float (VBool b) = none
as_float (Char c) = none
as_float (Unsigned x) = none
as_float (Signed z) = none
as_float (VFloat x) = some x
as_float (Text s l) = none
as_float (Bytes s l) = none
as_float (Vec c) = none
as_float (Tuple c) = none
as_float (Object c) = none

-- a text's place and length
abbrev pub as_text : Value → Option (ℕ × ℕ)
as_text VUnit = none
as_text (VBool b) = none
as_text (Char c) = none
as_text (Unsigned x) = none
as_text (Signed z) = none
as_text (VFloat x) = none
as_text (Text s l) = some (s, l)
as_text (Bytes s l) = none
as_text (Vec c) = none
as_text (Tuple c) = none
as_text (Object c) = none

abbrev pub as_object : Value → Option ℕ
as_object VUnit = none
as_object (VBool b) = none
as_object (Char c) = none
as_object (Unsigned x) = none
as_object (Signed z) = none
as_object (VFloat x) = none
as_object (Text s l) = none
as_object (Bytes s l) = none
as_object (Vec c) = none
as_object (Tuple c) = none
as_object (Object c) = some c

-- a vec or a tuple
abbrev pub as_items : Value → Option ℕ
as_items VUnit = none
as_items (VBool b) = none
as_items (Char c) = none
as_items (Unsigned x) = none
as_items (Signed z) = none
as_items (VFloat x) = none
as_items (Text s l) = none
as_items (Bytes s l) = none
as_items (Vec c) = some c
as_items (Tuple c) = some c
as_items (Object c) = none
