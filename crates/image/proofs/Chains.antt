-- In an image that loads, each node of a chain is of the class that the chain's head asks for: the node that names it says in whose chain it stands,
-- and as it is named once, no other node says otherwise. Assumes nothing.
use mathlib.Core.Path.{◌≡◌, refl, sym, ap, ◌∙◌}
use mathlib.Core.Bool.{Bool, true, cond, and-false}
use mathlib.Core.List.{List, ◌∷◌}
use Prim.Native.Nat.{ℕ, zero, suc, ◌+◌, ◌≤◌, ◌<◌}
use native.Mathlib.Nat.{le_refl}
use native.Mathlib.Decide.{ℕ_discrete}
use native.Mathlib.Omega.{arith}
use borrow.Author.Tests.{lt-ltb, le-ltb, eq-eqb, ne_eqb}
use lib.Dec.{eqb}
use Rattle.packed.specs.declared.layout.Header.{Header}
use Rattle.packed.specs.declared.layout.Node.{Node}
use Rattle.kinds.specs.declared.Class.{Class}
use Rattle.kinds.specs.declared.Role.{Role}
use Rattle.kinds.specs.declared.Role.TheVariants.{Unlisted, Number, Literal, Text, Function, Node as NodeRole}
use Rattle.packed.specs.Layout.{node_at}
use Rattle.kinds.specs.Kinds.{is_of, row_of}
use Rattle.std.proofs.Common.{Ok}
use Rattle.tree.specs.Tree.{named, times, names_of, bodies, node_names, namings, heading, marked, chain_by}
use Rattle.image.specs.Load.{load_of}
use Rattle.tree.proofs.Counting.{times_append}
use Rattle.image.proofs.Loads.{Reaches, nothing, on, kind_known, a_reaches, next_reaches, named_once}

-- m stands in the chain that node n heads
pub data Along (image : List ℕ) (h : Header) (n : ℕ) : ℕ → Type 0 where
  begins : {m : ℕ} → (node_at image h n).a ≡ m → (m ≡ 0 → ⊥) → Along image h n m
  continues : {k m : ℕ} → Along image h n k → (node_at image h k).next ≡ m → (m ≡ 0 → ⊥) → Along image h n m

-- m is a greater number than n, of a kind that fits
abbrev pub Later : List ℕ → Header → ℕ → Class → ℕ → Type 0
Later image h n class m = (n < m) × (m ≤ h.nodes) × (is_of class (node_at image h m).kind ≡ true)

later : {image : List ℕ} {h : Header} {n : ℕ} {class : Class} {x m : ℕ} → x ≡ m → (m ≡ 0 → ⊥) → Reaches image h n class x → Later image h n class m
later e some (nothing z) = absurd (some (sym e ∙ z))
later e some (on l last fits) = (omega arith, omega arith, rw (sym e) fits)

-- ---- what a node names

-- the kind of chain that a node heads, 0 where it heads none
abbrev head_of : Node → ℕ
head_of d = heading d.kind (row_of d.kind).a

heading_names : (kind : ℕ) (role : Role) (x : ℕ) → 0 < heading kind role → named role x ≡ x
heading_names kind Unlisted x l = absurd (omega arith)
heading_names kind Number x l = absurd (omega arith)
heading_names kind Literal x l = absurd (omega arith)
heading_names kind Text x l = absurd (omega arith)
heading_names kind Function x l = absurd (omega arith)
heading_names kind (NodeRole needed heads class) x l = refl

-- what x adds to the count of m
abbrev counts : ℕ → ℕ → ℕ
counts x m = cond (eqb x m) 1 0

counts_same : (x m : ℕ) → x ≡ m → counts x m ≡ 1
counts_same x m e = rw (eq-eqb x m e)

module _ (m : ℕ) (d : Node) where
  a_counts : 0 < head_of d → d.a ≡ m → counts (named (row_of d.kind).a d.a) m ≡ 1
  a_counts heads e = counts_same _ m (heading_names d.kind (row_of d.kind).a d.a heads ∙ e)

  names_by_a : 0 < head_of d → d.a ≡ m → 1 ≤ times m (names_of d)
  unfolding times names_of
  names_by_a heads e = omega (arith, a_counts heads e)

  names_by_next : d.next ≡ m → 1 ≤ times m (names_of d)
  unfolding times names_of
  names_by_next e = omega (arith, counts_same d.next m e)

  names_by_both : 0 < head_of d → d.a ≡ m → d.next ≡ m → 2 ≤ times m (names_of d)
  unfolding times names_of
  names_by_both heads e f = omega (arith, a_counts heads e, counts_same d.next m f)

-- ---- what a node says of another

marked_so : (n to kind m old : ℕ) → 0 < kind → n < to → to ≡ m → marked n to kind m old ≡ kind
marked_so n to kind m old k l e = rw (lt-ltb 0 kind k, lt-ltb n to l, eq-eqb to m e)

marked_not : (n to kind m old : ℕ) → (0 < kind → to ≡ m → ⊥) → marked n to kind m old ≡ old
marked_not n to kind m old other = go (ℕ_discrete to m)
  where
    go : Dec (to ≡ m) → marked n to kind m old ≡ old
    go (yes e) = let none : 0 < kind → ⊥ = λ l. other l e in rw (le-ltb 0 kind (omega arith))
    go (no e) = rw (ne_eqb to m e, and-false)

module _ (image : List ℕ) (h : Header) (m : ℕ) where
  names_more : (k : ℕ) → times m (node_names image h (suc k)) ≡ times m (node_names image h k) + times m (names_of (node_at image h (suc k)))
  unfolding node_names
  names_more k = times_append m (node_names image h k) (names_of (node_at image h (suc k)))

  names_grow : (i k : ℕ) → i ≤ k → times m (node_names image h i) ≤ times m (node_names image h k)
  names_grow i zero l = let z : i ≡ 0 = omega arith in rw z (le_refl _)
  names_grow i (suc k) l = go (ℕ_discrete i (suc k)) (names_grow i k)
    where
      go : Dec (i ≡ suc k) → (i ≤ k → times m (node_names image h i) ≤ times m (node_names image h k)) → times m (node_names image h i) ≤ times m (node_names image h (suc k))
      go (yes e) below = rw e (le_refl _)
      go (no e) below = omega (arith, below (omega arith), names_more k)

  -- node k + 1 says nothing of a node that it does not name
  says_nothing : (k : ℕ) → times m (names_of (node_at image h (suc k))) ≡ 0 → chain_by image h (suc k) m ≡ chain_by image h k m
  unfolding chain_by
  says_nothing k z =
      let d = node_at image h (suc k) in
      marked_not (suc k) d.a (head_of d) m _ (λ heads e. absurd (omega (arith, names_by_a m d heads e)))
      ∙ marked_not (suc k) d.next (chain_by image h k (suc k)) m _ (λ chained e. absurd (omega (arith, names_by_next m d e)))

  -- of the first node of the chain that it heads, it says its own kind
  says_head : (k : ℕ) → 0 < head_of (node_at image h (suc k)) → (node_at image h (suc k)).a ≡ m → suc k < m
      → chain_by image h (suc k) m ≡ head_of (node_at image h (suc k))
  unfolding chain_by
  says_head k heads e l =
      let d = node_at image h (suc k) in
      marked_so (suc k) d.a (head_of d) m _ heads (omega arith) e

  -- of its next, it says the kind of the chain that it stands in itself
  says_next : (k : ℕ) → 0 < chain_by image h k (suc k) → (node_at image h (suc k)).next ≡ m → suc k < m → times m (names_of (node_at image h (suc k))) ≤ 1
      → chain_by image h (suc k) m ≡ chain_by image h k (suc k)
  unfolding chain_by
  says_next k chained e l once =
      let d = node_at image h (suc k) in
      marked_not (suc k) d.a (head_of d) m _ (λ heads f. absurd (omega (arith, names_by_both m d heads f e)))
      ∙ marked_so (suc k) d.next (chain_by image h k (suc k)) m _ chained (omega arith) e

-- ---- the image

module _ (image : List ℕ) (h : Header) (loaded : load_of image ≡ Ok h) where
  -- the nodes below m, and any more, say that m stands in a chain of that kind
  abbrev Stands : ℕ → ℕ → Type 0
  Stands kind m = (k : ℕ) → m ≤ suc k → k ≤ h.nodes → chain_by image h k m ≡ kind

  module _ (m : ℕ) (first : 1 ≤ m) (last : m ≤ h.nodes) where
    named_at_most_once : (k : ℕ) → k ≤ h.nodes → times m (node_names image h k) ≤ 1
    unfolding namings
    named_at_most_once k l =
        omega (
          arith,
          names_grow image h m k h.nodes l,
          named_once image h loaded m first last,
          times_append m (h.root ∷ bodies image h.functions) (node_names image h h.nodes),
        )

    -- once one of the nodes up to j names m, what they say of it stays
    stays : (j k : ℕ) → j ≤ k → k ≤ h.nodes → 1 ≤ times m (node_names image h j) → chain_by image h k m ≡ chain_by image h j m
    stays j zero l within one = let z : j ≡ 0 = omega arith in rw z
    stays j (suc k) l within one = go (ℕ_discrete j (suc k)) (λ s. stays j k s (omega arith) one)
      where
        go : Dec (j ≡ suc k) → (j ≤ k → chain_by image h k m ≡ chain_by image h j m) → chain_by image h (suc k) m ≡ chain_by image h j m
        go (yes e) below = rw e
        go (no e) below =
            let s : j ≤ k = omega arith in
            let named-below = names_grow image h m j k s in
            says_nothing image h m k (omega (arith, names_more image h m k, named_at_most_once (suc k) within)) ∙ below s

    stands : (j kind : ℕ) → suc j < m → 1 ≤ times m (names_of (node_at image h (suc j))) → chain_by image h (suc j) m ≡ kind → Stands kind m
    stands j kind l names e k below within = stays (suc j) k (omega arith) within (omega (arith, names_more image h m j)) ∙ e

    head_stands : (n : ℕ) → 1 ≤ n → n < m → 0 < head_of (node_at image h n) → (node_at image h n).a ≡ m → Stands (head_of (node_at image h n)) m
    head_stands zero one l heads e = absurd (omega arith)
    head_stands (suc j) one l heads e = stands j _ l (names_by_a m _ heads e) (says_head image h m j heads e l)

    next_stands : (n kind : ℕ) → 1 ≤ n → n < m → 0 < kind → Stands kind n → (node_at image h n).next ≡ m → Stands kind m
    next_stands zero kind one l some own e = absurd (omega arith)
    next_stands (suc j) kind one l some own e =
        let chained = own j (omega arith) (omega arith) in
        let once = named_at_most_once (suc j) (omega arith) in
        stands j kind l (names_by_next m _ e)
        (says_next image h m j (omega arith) e l (omega (arith, names_more image h m j)) ∙ chained)

  module _ (n : ℕ) (one : 1 ≤ n) (within : n ≤ h.nodes) (needed : Bool) (class : Class) (role : (row_of (node_at image h n).kind).a ≡ NodeRole needed true class) where
    abbrev kind : ℕ
    kind = (node_at image h n).kind

    heads : head_of (node_at image h n) ≡ kind
    heads = ap (heading kind) role

    known : 0 < kind
    known = (kind_known image h loaded n one within).0

    member : (m : ℕ) → Along image h n m → Later image h n class m × Stands kind m
    member m (begins e some) =
        let to = later e some (a_reaches image h loaded n one within needed true class role) in
        (to, rw heads at (head_stands m (omega arith) to.1 n one to.0 (omega (arith, heads, known)) e))
    member m (continues {k = k} p e some) = after (member k p)
      where
        after : Later image h n class k × Stands kind k → Later image h n class m × Stands kind m
        after at =
            let own = ap (λ (x : ℕ). (row_of x).a) (at.1 h.nodes (omega arith) (le_refl _)) ∙ role in
            let to = later e some (next_reaches image h loaded k (omega arith) at.0.1 needed true class own) in
            ((omega arith, to.1, to.2), next_stands m (omega arith) to.1 k kind (omega arith) to.0 known at.1 e)

    pub along_class : (m : ℕ) → Along image h n m → Later image h n class m
    along_class m p = (member m p).0
