-- Refusal 3, "first bad record: range, op, zero bits, literal", at "its byte offset".
use Rattle.std.specs.Prelude.{ℕ, ◌+◌, ◌-◌, Bool, true, false, not, ◌&&◌, ◌||◌, cond, List, leb, ltb, eqb, Option, Some, None}
use Rattle.std.proofs.Math.Seq.{slice}
use Rattle.utf8.specs.Utf8.{utf8_of}
use Rattle.packed.specs.declared.layout.Header.{Header}
use Rattle.packed.specs.declared.layout.Function.{Function}
use Rattle.packed.specs.declared.layout.Node.{Node}
use Rattle.packed.specs.declared.layout.Part.{Part}
use Rattle.kinds.specs.declared.Role.{Role}
use Rattle.kinds.specs.declared.Role.TheVariants.{Unlisted, Number, Literal, Text, Function as FunctionRole, Node as NodeRole}
use Rattle.records.specs.First.{first_from}
use Rattle.packed.specs.Layout.{text_at, size_of, function_offset, node_offset, literal_offset, function_at, node_at, literal_at, part_at}
use Rattle.kinds.specs.Kinds.{is_within, row_of, tag_role}

-- the number of a node
abbrev pub is_node : ℕ → ℕ → Bool
is_node nodes x = ltb 0 x && leb x nodes

-- a function: its body is a node, and its "argument names are consecutive and stay below 1,024"
unfoldable pub function_good : Header → Function → Bool
function_good h f = is_node h.nodes f.body && leb (f.first + f.count) 1024 && eqb f.zero 0

-- what a node's field holds, against its role: "a number above N or not below L or F, a needed reference that is 0,
-- a literal of another kind than the field asks"; "unlisted fields, next aside, are 0"
unfoldable pub fits : List ℕ → Header → Role → ℕ → Bool
fits image h Unlisted x = eqb x 0
fits image h Number x = true
fits image h Literal x = ltb x h.literals
fits image h Text x = ltb x h.literals && eqb (literal_at image h x).kind 6
fits image h FunctionRole x = ltb x h.functions
fits image h (NodeRole needed heads class) x = cond needed (is_node h.nodes x) (leb x h.nodes)

unfoldable pub node_good : List ℕ → Header → Node → Bool
node_good image h d =
    ltb d.op (row_of d.kind).ops
    && eqb d.zero 0
    && leb d.next h.nodes
    && fits image h (tag_role d.kind d.op) d.tag
    && fits image h (row_of d.kind).a d.a
    && fits image h (row_of d.kind).b d.b

-- a Unicode scalar value
abbrev pub is_scalar : ℕ → Bool
is_scalar x = leb x 0xD7FF || is_within 0xE000 0x10FFFF x

abbrev pub image_text : List ℕ → Header → List ℕ
image_text image h = slice (text_at h) (size_of h) image

-- a part lies within the text; its bytes
unfoldable pub part_good : Header → Part → Bool
part_good h p = eqb p.zero 0 && leb (p.start + p.length) h.text

unfoldable pub part_of : List ℕ → Header → Part → List ℕ
part_of image h p = slice (text_at h + p.start) (text_at h + p.start + p.length) image

-- "0 unit (payload 0), 1 bool (0 or 1), 2 unsigned, 3 signed, 4 float bits, 5 char, 6 text (UTF-8, RFC 3629), 7 bytes"
unfoldable pub payload_good : List ℕ → Header → ℕ → ℕ → ℕ → Bool
payload_good image h l kind payload =
    cond (eqb kind 0) (eqb payload 0)
    (cond (eqb kind 1) (leb payload 1)
    (cond (is_within 2 4 kind) true
    (cond (eqb kind 5) (is_scalar payload)
    (cond (eqb kind 6) (part_good h (part_at image h l) && utf8_of (part_of image h (part_at image h l)))
    (cond (eqb kind 7) (part_good h (part_at image h l)) false)))))

unfoldable pub literal_good : List ℕ → Header → ℕ → Bool
literal_good image h l =
    eqb (literal_at image h l).zero 0 && payload_good image h l (literal_at image h l).kind (literal_at image h l).payload

-- the records in the order of the image, counted from 0: functions, nodes, literals
unfoldable pub record_good : List ℕ → Header → ℕ → Bool
record_good image h r =
    cond (ltb r h.functions) (function_good h (function_at image r))
    (cond (ltb (r - h.functions) h.nodes) (node_good image h (node_at image h (r - h.functions + 1)))
    (literal_good image h (r - h.functions - h.nodes)))

unfoldable pub record_offset : Header → ℕ → ℕ
record_offset h r =
    cond (ltb r h.functions) (function_offset r)
    (cond (ltb (r - h.functions) h.nodes) (node_offset h (r - h.functions + 1))
    (literal_offset h (r - h.functions - h.nodes)))

abbrev pub records_in : Header → ℕ
records_in h = h.functions + h.nodes + h.literals

-- where what was found stands
abbrev pub placed : (ℕ → ℕ) → Option ℕ → Option ℕ
placed place (Some r) = Some (place r)
placed place None = None

abbrev pub record_bad : List ℕ → Header → ℕ → Bool
record_bad image h r = not (record_good image h r)

unfoldable pub bad_record : List ℕ → Header → Option ℕ
bad_record image h = placed (record_offset h) (first_from (record_bad image h) 0 (records_in h))
