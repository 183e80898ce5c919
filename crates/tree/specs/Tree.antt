-- Refusal 4, the tree, at "the lowest node at fault": "the node that names wrongly, carries a stray next, heads too long a target
-- or is itself named other than once; for header and function records, the node named".
use Rattle.std.specs.Prelude.{ℕ, zero, suc, ◌+◌, ◌≤◌, ◌<◌, ◌≡◌, Bool, true, not, ◌&&◌, ◌||◌, cond, List, [], ◌∷◌, ◌++◌, leb, ltb, eqb, get_or, length, Option}
use Rattle.packed.specs.declared.layout.Header.{Header}
use Rattle.packed.specs.declared.layout.Node.{Node}
use Rattle.kinds.specs.declared.Class.TheVariants.{Expression, Scope}
use Rattle.kinds.specs.declared.Role.{Role}
use Rattle.kinds.specs.declared.Role.TheVariants.{Unlisted, Number, Literal, Text, Function, Node as NodeRole}
use Rattle.records.specs.First.{first_from}
use Rattle.packed.specs.Layout.{function_at, node_at}
use Rattle.kinds.specs.Kinds.{is_within, is_of, row_of}
use Rattle.records.specs.Records.{node_good}

-- ---- "each node is named exactly once, counting the root and body fields"

-- how often n stands in a list
unfoldable pub times : ℕ → List ℕ → ℕ
times n [] = 0
times n (x ∷ xs) = cond (eqb x n) 1 0 + times n xs

-- the node that a field names; 0 is none
abbrev pub named : Role → ℕ → ℕ
named Unlisted x = 0
named Number x = 0
named Literal x = 0
named Text x = 0
named Function x = 0
named (NodeRole needed heads class) x = x

-- the nodes that a node names, also where it names wrongly
unfoldable pub names_of : Node → List ℕ
names_of d = named (row_of d.kind).a d.a ∷ named (row_of d.kind).b d.b ∷ d.next ∷ []

-- the bodies of the first k functions, and what the nodes 1 to k name
unfoldable pub bodies : List ℕ → ℕ → List ℕ
bodies image zero = []
bodies image (suc k) = bodies image k ++ ((function_at image k).body ∷ [])

unfoldable pub node_names : List ℕ → Header → ℕ → List ℕ
node_names image h zero = []
node_names image h (suc k) = node_names image h k ++ names_of (node_at image h (suc k))

unfoldable pub namings : List ℕ → Header → List ℕ
namings image h = (h.root ∷ bodies image h.functions) ++ node_names image h h.nodes

-- ---- "chains run by next"; "a node is in a chain only through lower-numbered nodes"

-- the kind of a node whose field a heads a chain, else 0
abbrev pub heading : ℕ → Role → ℕ
heading kind Unlisted = 0
heading kind Number = 0
heading kind Literal = 0
heading kind Text = 0
heading kind Function = 0
heading kind (NodeRole needed heads class) = cond heads kind 0

-- in whose chain m stands, once node n has named `to` as one of a chain of that kind
abbrev pub marked : ℕ → ℕ → ℕ → ℕ → ℕ → ℕ
marked n to kind m old = cond (ltb 0 kind && ltb n to && eqb to m) kind old

-- what node n adds to what the nodes below it say: its a heads a chain, its next goes on with the chain that it stands in
abbrev pub says : ℕ → Node → (ℕ → ℕ) → ℕ → ℕ
says n d below m =
    marked n d.a (heading d.kind (row_of d.kind).a) m (marked n d.next (below n) m (below m))

-- the kind of the node in whose chain each node stands, by what the nodes 1 to k say; 0 is none
unfoldable pub chain_by : List ℕ → Header → ℕ → ℕ → ℕ
chain_by image h zero m = 0
chain_by image h (suc k) m = says (suc k) (node_at image h (suc k)) (chain_by image h k) m

-- ---- "every reference goes to a greater number and to a kind that fits"

-- what node n names in a field of that role; for next the role is that of the chain's head, and none has no next
unfoldable pub goes : List ℕ → Header → ℕ → Role → ℕ → Bool
goes image h n Unlisted x = eqb x 0
goes image h n Number x = true
goes image h n Literal x = true
goes image h n Text x = true
goes image h n Function x = true
goes image h n (NodeRole needed heads class) x = eqb x 0 || (ltb n x && is_of class (node_at image h x).kind)

-- ---- "a target has at most 64 nodes of kind 22 and 23, counted while a goes to a greater number"

-- those nodes from n on, counted no further than `most`
unfoldable pub parts : List ℕ → Header → ℕ → ℕ → ℕ
parts image h zero n = 0
parts image h (suc most) n =
    cond (is_within 22 23 (node_at image h n).kind)
    (suc (cond (ltb n (node_at image h n).a) (parts image h most (node_at image h n).a) 0))
    0

-- ---- the nodes at fault

-- node n, which stands in a chain that a node of that kind heads, names well
unfoldable pub names_well : List ℕ → Header → ℕ → ℕ → Node → Bool
names_well image h n chain d =
    goes image h n (row_of d.kind).a d.a
    && goes image h n (row_of d.kind).b d.b
    && goes image h n (row_of chain).a d.next

-- node n is named once in all; "a body is a scope; the root is an expression"
unfoldable pub is_named_well : Header → ℕ → ℕ → ℕ → ℕ → Bool
is_named_well h n kind times as_body =
    eqb times 1
    && (not (eqb n h.root) || is_of Expression kind)
    && (eqb as_body 0 || is_of Scope kind)

unfoldable pub node_right : List ℕ → Header → ℕ → Node → Bool
node_right image h n d =
    names_well image h n (chain_by image h h.nodes n) d
    && leb (parts image h 65 n) 64
    && is_named_well h n d.kind (times n (namings image h)) (times n (bodies image h.functions))

abbrev pub at_fault : List ℕ → Header → ℕ → Bool
at_fault image h n = not (node_right image h n (node_at image h n))

unfoldable pub lowest_fault : List ℕ → Header → Option ℕ
lowest_fault image h = first_from (at_fault image h) 1 h.nodes

-- ---- what the passes over the image leave in their arrays

-- a count that grows t times, up to 255
unfoldable pub grown : ℕ → ℕ → ℕ
grown x zero = x
grown x (suc t) = cond (ltb (grown x t) 255) (grown x t + 1) (grown x t)

-- each count has grown as often as its node is named
pub record Added (before after names : List ℕ) : Type 0 where
  pub long : length after ≡ length before
  pub counts : (n : ℕ) → n < 4096 → get_or after n 0 ≡ grown (get_or before n 0) (times n names)

-- for each node, what a function says of it
pub record Holds (array : List ℕ) (says : ℕ → ℕ) : Type 0 where
  pub long : length array ≡ 4096
  pub at : (m : ℕ) → m < 4096 → get_or array m 0 ≡ says m

-- the three arrays after the passes: how often each node is named, how often as a body, and in whose chain it stands
pub record Surveyed (image : List ℕ) (h : Header) (names as_bodies chains : List ℕ) : Type 0 where
  pub named : Holds names (λ n. grown 0 (times n (namings image h)))
  pub as_body : Holds as_bodies (λ n. grown 0 (times n (bodies image h.functions)))
  pub chained : Holds chains (chain_by image h h.nodes)

-- every node's record is good
pub record GoodNodes (image : List ℕ) (h : Header) : Type 0 where
  pub few : h.nodes < 4096
  pub good : (n : ℕ) → 1 ≤ n → n ≤ h.nodes → node_good image h (node_at image h n) ≡ true
