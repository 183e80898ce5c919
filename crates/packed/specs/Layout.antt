-- The image, 01 'Image': bit-packed, most significant bit first. Widths and places come from the five lists below and from nothing else.
use Rattle.std.specs.Prelude.{ℕ, ◌+◌, ◌-◌, ◌*◌, ◌/◌, List, [], ◌∷◌, get_or, take}
use Rattle.fields.specs.Field.{field_of}
use Rattle.packed.specs.declared.layout.Header.{Header}
use Rattle.packed.specs.declared.layout.Function.{Function}
use Rattle.packed.specs.declared.layout.Node.{Node}
use Rattle.packed.specs.declared.layout.Literal.{Literal}
use Rattle.packed.specs.declared.layout.Part.{Part}

-- "edition 4 (=1), functions F 8, nodes N 12, literals L 12, text bytes T 16, root node 12"
abbrev pub header_fields : List ℕ
header_fields = 4 ∷ 8 ∷ 12 ∷ 12 ∷ 16 ∷ 12 ∷ []

-- "body node 12, argument count 4, first argument name 10, zero 6"
abbrev pub function_fields : List ℕ
function_fields = 12 ∷ 4 ∷ 10 ∷ 6 ∷ []

-- "kind 5, op 4, tag 10, a 12, b 12, next 12, zero 9"
abbrev pub node_fields : List ℕ
node_fields = 5 ∷ 4 ∷ 10 ∷ 12 ∷ 12 ∷ 12 ∷ 9 ∷ []

-- "kind 4, zero 12, payload 64"
abbrev pub literal_fields : List ℕ
literal_fields = 4 ∷ 12 ∷ 64 ∷ []

-- of a payload of text or bytes: "zero 32, start 16, length 16"
abbrev pub part_fields : List ℕ
part_fields = 32 ∷ 16 ∷ 16 ∷ []

-- how many bits fields of these widths take
abbrev pub bits : List ℕ → ℕ
bits [] = 0
bits (w ∷ ws) = w + bits ws

-- field i of a record of such fields that starts at a byte
abbrev pub field_in : List ℕ → List ℕ → ℕ → ℕ → ℕ
field_in widths image at i = field_of image (8 * at + bits (take i widths)) (get_or widths i 0)

unfoldable pub header_of : List ℕ → Header
header_of image =
    record {
      edition = field_in header_fields image 0 0;
      functions = field_in header_fields image 0 1;
      nodes = field_in header_fields image 0 2;
      literals = field_in header_fields image 0 3;
      text = field_in header_fields image 0 4;
      root = field_in header_fields image 0 5;
    }

-- where the functions, the nodes, the literals and the text begin, each after the records before it, and how long the image is
abbrev pub functions_at : ℕ
functions_at = bits header_fields / 8

abbrev pub nodes_at : Header → ℕ
nodes_at h = functions_at + bits function_fields / 8 * h.functions

abbrev pub literals_at : Header → ℕ
literals_at h = nodes_at h + bits node_fields / 8 * h.nodes

abbrev pub text_at : Header → ℕ
text_at h = literals_at h + bits literal_fields / 8 * h.literals

abbrev pub size_of : Header → ℕ
size_of h = text_at h + h.text

-- the byte offset of each record; functions and literals count from 0, "nodes count from 1"
abbrev pub function_offset : ℕ → ℕ
function_offset f = functions_at + bits function_fields / 8 * f

abbrev pub node_offset : Header → ℕ → ℕ
node_offset h n = nodes_at h + bits node_fields / 8 * (n - 1)

abbrev pub literal_offset : Header → ℕ → ℕ
literal_offset h l = literals_at h + bits literal_fields / 8 * l

unfoldable pub function_at : List ℕ → ℕ → Function
function_at image f =
    record {
      body = field_in function_fields image (function_offset f) 0;
      count = field_in function_fields image (function_offset f) 1;
      first = field_in function_fields image (function_offset f) 2;
      zero = field_in function_fields image (function_offset f) 3;
    }

unfoldable pub node_at : List ℕ → Header → ℕ → Node
node_at image h n =
    record {
      kind = field_in node_fields image (node_offset h n) 0;
      op = field_in node_fields image (node_offset h n) 1;
      tag = field_in node_fields image (node_offset h n) 2;
      a = field_in node_fields image (node_offset h n) 3;
      b = field_in node_fields image (node_offset h n) 4;
      next = field_in node_fields image (node_offset h n) 5;
      zero = field_in node_fields image (node_offset h n) 6;
    }

unfoldable pub literal_at : List ℕ → Header → ℕ → Literal
literal_at image h l =
    record {
      kind = field_in literal_fields image (literal_offset h l) 0;
      zero = field_in literal_fields image (literal_offset h l) 1;
      payload = field_in literal_fields image (literal_offset h l) 2;
    }

-- the part of the text that a literal of kind 6 or 7 names: its payload stands after kind and zero
unfoldable pub part_at : List ℕ → Header → ℕ → Part
part_at image h l =
    record {
      zero = field_in part_fields image (literal_offset h l + 2) 0;
      start = field_in part_fields image (literal_offset h l + 2) 1;
      length = field_in part_fields image (literal_offset h l + 2) 2;
    }
