-- What vec, tuple, object and template make of the items that are pending from `from` on.
use Rattle.std.specs.Prelude.{ℕ, ◌+◌, ◌≤◌, ◌≡◌, cond, Option, Some, Result, Ok, Err, List, [], ◌++◌, ltb, Float, length, take, drop}
use Rattle.std.proofs.Math.Option.{Option as Maybe, some, none}
use Rattle.packed.specs.declared.layout.Header.{Header}
use Rattle.packed.specs.declared.layout.Node.{Node}
use Rattle.packed.specs.Layout.{node_at}
use Rattle.image.specs.Load.{load_of}
use Rattle.numbers.specs.Decimal.{end_of}
use Rattle.rules.specs.declared.Value.{Value}
use Rattle.rules.specs.declared.Value.TheVariants.{Object}
use Rattle.rules.specs.declared.Refusal.{Refusal}
use Rattle.rules.specs.declared.Refused.{Refused}
use Rattle.rules.specs.Store.{Store, empty, with_text, dropped, taken_cells, as_float}
use Rattle.rules.specs.Building.{Made, built_text, boxed, item_cells, entries, entry_cells, printed, unprinted, or_nothing, template_text}
use Rattle.rules.specs.Machine.{whole_chain}
use Rattle.stores.specs.declared.lent.Stores.{Stores}
use Rattle.stores.specs.Lent.{StoresMade}
use Rattle.stores.specs.Stores.{bindings_in, pendings_in, cells_in}
use Rattle.entries.specs.Entries.{entries_of, object_end}

-- a node of that kind in an image that loads
pub record IsKind (kind : ℕ) (image : List ℕ) (h : Header) (n : ℕ) : Type 0 where
  pub loaded : load_of image ≡ Ok h
  pub first : 1 ≤ n
  pub last : n ≤ h.nodes
  pub same : (node_at image h n).kind ≡ kind

-- "Chains run by next"
abbrev pub onward_of : Node → ℕ → ℕ
onward_of node i = cond (ltb i node.next) node.next 0

-- ---- vec and tuple, by the value that a head's number gives

abbrev pub items_made : (ℕ → Value) → ℕ → ℕ → Store → Made
items_made box n from σ = boxed n (box (length σ.cells)) (taken_cells (dropped from σ) (item_cells σ (drop from σ.pending)))

-- the value that a head is of
abbrev pub boxed_by : (ℕ → Value) → Result ℕ Refused → Result Value Refused
boxed_by box (Ok head) = Ok (box head)
boxed_by box (Err e) = Err e

-- whichever value it is to be
abbrev pub StoresMadeItems : Result ℕ Refused → ℕ → ℕ → Stores → Stores → Type 0
StoresMadeItems r n from s s' = (box : ℕ → Value) → StoresMade (boxed_by box r) (items_made box n from) s s'

-- ---- object

abbrev pub object_made : List ℕ → Header → ℕ → ℕ → Store → Made
object_made image h n from σ =
    boxed n (Object (length σ.cells))
    (taken_cells (dropped from σ) (entry_cells σ (entries image h (whole_chain image h (node_at image h n).a) (drop from σ.pending) [])))

-- the entries of object n, of the pending items `from` up to `to`
abbrev pub entries_in : List ℕ → Header → ℕ → ℕ → ℕ → List ℕ → List (ℕ × Value)
entries_in image h n from to words = entries image h (whole_chain image h (node_at image h n).a) (drop from (pendings_in to words)) []

-- they stand after the head, up to the end that r gives, unless there are more of them than cells
pub record EntriesPut (image : List ℕ) (h : Header) (n head from to : ℕ) (r : Option ℕ) (words words' : List ℕ) : Type 0 where
  pub long : length words' ≡ length words
  pub bindings : (m : ℕ) → m ≤ 256 → bindings_in m words' ≡ bindings_in m words
  pub pendings : (m : ℕ) → m ≤ 512 → pendings_in m words' ≡ pendings_in m words
  pub before : cells_in (head + 1) words' ≡ cells_in (head + 1) words
  pub ends : r ≡ object_end (head + 1 + length (entries_in image h n from to words))
  pub entries : (end : ℕ) → r ≡ Some end → cells_in end words' ≡ cells_in (head + 1) words ++ entries_of head (entries_in image h n from to words)

-- ---- template

-- "each component is judged as soon as it is evaluated", whatever the image and the store
abbrev pub judged_of : Maybe (List ℕ) → Maybe Float → Result (Unit {0}) Refusal
judged_of none x = Err (unprinted x)
judged_of (some bytes) x = Ok tt

pub record Judging (r : Result (Unit {0}) Refusal) (v : Value) : Type 0 where
  pub is : (image : List ℕ) (h : Header) (σ : Store) → r ≡ judged_of (printed image h σ v) (as_float v)

-- what a value prints, the first `made` bytes being the text that was built
abbrev pub printed_text : List ℕ → Header → ℕ → List ℕ → Value → List ℕ
printed_text image h made bytes v = or_nothing (printed image h (with_text (take made bytes) empty) v)

abbrev pub template_made : List ℕ → Header → ℕ → ℕ → Store → Made
template_made image h n from σ =
    built_text image h n (dropped from σ) (template_text image h σ (whole_chain image h (node_at image h n).a) (drop from σ.pending))

-- the text of template n's components, of the pending items `from` up to `to`
abbrev pub components_text : List ℕ → Header → List ℕ → ℕ → ℕ → ℕ → ℕ → List ℕ → List ℕ
components_text image h words n from to made bytes =
    template_text image h (with_text (take made bytes) empty) (whole_chain image h (node_at image h n).a) (drop from (pendings_in to words))

-- it stands after the first `made` bytes, if there is room for all of it
pub record ComponentsPut (image : List ℕ) (h : Header) (words : List ℕ) (n from to made : ℕ) (r : Option ℕ) (bytes bytes' : List ℕ) : Type 0 where
  pub long : length bytes' ≡ length bytes
  pub before : take made bytes' ≡ take made bytes
  pub ends : r ≡ end_of bytes made (components_text image h words n from to made bytes)
  pub text : (end : ℕ) → r ≡ Some end → take end bytes' ≡ take made bytes ++ components_text image h words n from to made bytes
