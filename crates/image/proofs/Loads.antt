-- What is known of an image that loads: the laws that the crates above cite. Assumes nothing.
use mathlib.Core.Path.{◌≡◌, refl, sym, ap, subst}
use mathlib.Core.Logic.{◌⊎◌, inl, inr, ⊎_elim}
use mathlib.Core.Bool.{Bool, true, false, not, ◌&&◌, ◌||◌, cond, true≢false}
use mathlib.Core.List.{List}
use Prim.Native.Nat.{ℕ, zero, suc, ◌+◌, ◌≤◌, ◌<◌}
use native.Mathlib.Nat.{not-suc-le-zero}
use native.Mathlib.Decide.{dec_lt, ℕ_discrete}
use native.Mathlib.Omega.{arith}
use borrow.Author.Tests.{leb-true, ltb-true, eqb-true, eq-eqb, ne_eqb, not-false}
use lib.Dec.{leb, ltb, eqb}
use lib.ListN.{get_or-eq_default}
use Rattle.utf8.specs.Utf8.{utf8_of}
use Rattle.fields.proofs.Tests.{and_both}
use Rattle.packed.specs.declared.layout.Header.{Header}
use Rattle.packed.specs.declared.layout.Node.{Node}
use Rattle.kinds.specs.declared.Class.{Class}
use Rattle.kinds.specs.declared.Class.TheVariants.{Expression, Scope}
use Rattle.kinds.specs.declared.KindRow.{KindRow}
use Rattle.kinds.specs.declared.Role.{Role}
use Rattle.kinds.specs.declared.Role.TheVariants.{Unlisted, Number, Literal, Text, Function, Node as NodeRole}
use Rattle.std.proofs.Common.{None, Result, Ok}
use Rattle.image.specs.declared.LoadError.{LoadError}
use Rattle.records.specs.First.{Never}
use Rattle.packed.specs.Layout.{node_at, literal_at, part_at, function_at}
use Rattle.kinds.specs.Kinds.{is_of, row_of, table, none}
use Rattle.records.specs.Records.{fits, part_good, part_of, payload_good, literal_good, function_good, record_bad, records_in, bad_record}
use Rattle.tree.specs.Tree.{named, times, bodies, namings, heading, chain_by, goes, parts, names_well, is_named_well, node_right, at_fault}
use Rattle.image.specs.Load.{load_of}
use Rattle.image.specs.Answers.{HeaderRight, Answers, short, other_edition, other_length, no_root, bad_record as bad_record_there, bad_tree, loads}
use Rattle.records.proofs.Search.{is_nowhere}
use Rattle.tree.proofs.Good.{Good, good_node, fits_named}
use Rattle.records.proofs.GoodRecords.{function_good_lem, node_good_lem, literal_good_lem}
use Rattle.image.proofs.Exact.{answers}

-- ---- where a reference goes

-- a reference of node n: none, or a greater number, of a kind that fits
pub data Reaches (image : List ℕ) (h : Header) (n : ℕ) (class : Class) (x : ℕ) : Type 0 where
  nothing : x ≡ 0 → Reaches image h n class x
  on : n < x → x ≤ h.nodes → is_of class (node_at image h x).kind ≡ true → Reaches image h n class x

reach : (image : List ℕ) (h : Header) (n : ℕ) (needed heads : Bool) (class : Class) (x : ℕ) → goes image h n (NodeRole needed heads class) x ≡ true → x ≤ h.nodes → Reaches image h n class x
unfolding goes
reach image h n needed heads class x e l = go (eqb x 0) refl e
  where
    go : (b : Bool) → eqb x 0 ≡ b → b || (ltb n x && is_of class (node_at image h x).kind) ≡ true → Reaches image h n class x
    go true z e = nothing (eqb-true x 0 z)
    go false z e = let both = and_both (ltb n x) (is_of class (node_at image h x).kind) e in on (ltb-true n x both.0) l both.1

-- ---- the node in whose chain another stands heads one

abbrev pub headed : Role → Bool
headed Unlisted = false
headed Number = false
headed Literal = false
headed Text = false
headed Function = false
headed (NodeRole needed heads class) = heads

-- a kind that heads a chain, or none
abbrev pub Heads : ℕ → Type 0
Heads kind = (kind ≡ 0) ⊎ (headed (row_of kind).a ≡ true)

heading_heads : (kind : ℕ) (role : Role) → (row_of kind).a ≡ role → Heads (heading kind role)
heading_heads kind Unlisted e = inl refl
heading_heads kind Number e = inl refl
heading_heads kind Literal e = inl refl
heading_heads kind Text e = inl refl
heading_heads kind Function e = inl refl
heading_heads kind (NodeRole needed true class) e = inr (ap headed e)
heading_heads kind (NodeRole needed false class) e = inl refl

pick : (b : Bool) (x y : ℕ) → Heads x → Heads y → Heads (cond b x y)
pick true x y p q = p
pick false x y p q = q

pub chain_heads : (image : List ℕ) (h : Header) (k m : ℕ) → Heads (chain_by image h k m)
unfolding chain_by
chain_heads image h zero m = inl refl
chain_heads image h (suc k) m =
    let d = node_at image h (suc k) in
    let own = chain_by image h k (suc k) in
    pick (ltb 0 (heading d.kind (row_of d.kind).a) && ltb (suc k) d.a && eqb d.a m) _ _
    (heading_heads d.kind (row_of d.kind).a refl)
    (pick (ltb 0 own && ltb (suc k) d.next && eqb d.next m) _ _ (chain_heads image h k (suc k)) (chain_heads image h k m))

-- ---- a kind that has an op is one of the table's

known_kind : (kind op : ℕ) → op < (row_of kind).ops → (1 ≤ kind) × (kind ≤ 23)
unfolding row_of table
known_kind kind op l = go (ℕ_discrete kind 0) (dec_lt 23 kind)
  where
    go : Dec (kind ≡ 0) → Dec (23 < kind) → (1 ≤ kind) × (kind ≤ 23)
    go (yes z) _ = absurd (not-suc-le-zero (subst (λ (k : ℕ). op < (row_of k).ops) z l))
    go (no z) (yes g) =
        let past : row_of kind ≡ none = get_or-eq_default table none g in
        absurd (not-suc-le-zero (subst (λ (r : KindRow). op < r.ops) past l))
    go (no z) (no g) = (omega arith, omega arith)

-- ---- the image

-- what `Answers` says of an image that loads
facts : (image : List ℕ) (h : Header) (x : Result Header LoadError) → Answers image x → x ≡ Ok h
    → HeaderRight image h × Never (record_bad image h) 0 (records_in h) × Never (at_fault image h) 1 h.nodes
facts image h x (short l) e = let z : ◌≡◌ {A = ℕ} 0 1 = cc in absurd (omega arith)
facts image h x (other_edition w d) e = let z : ◌≡◌ {A = ℕ} 0 1 = cc in absurd (omega arith)
facts image h x (other_length w d l) e = let z : ◌≡◌ {A = ℕ} 0 1 = cc in absurd (omega arith)
facts image h x (no_root w d l r) e = let z : ◌≡◌ {A = ℕ} 0 1 = cc in absurd (omega arith)
facts image h x (bad_record_there g r right f) e = let z : ◌≡◌ {A = ℕ} 0 1 = cc in absurd (omega arith)
facts image h x (bad_tree g n right good f) e = let z : ◌≡◌ {A = ℕ} 0 1 = cc in absurd (omega arith)
facts image h x (loads g right good fine) e =
    let same : g ≡ h = cc in
    subst (λ (k : Header). HeaderRight image k × Never (record_bad image k) 0 (records_in k) × Never (at_fault image k) 1 k.nodes) same (right, good, fine)

module _ (image : List ℕ) (h : Header) (loaded : load_of image ≡ Ok h) where
  all : HeaderRight image h × Never (record_bad image h) 0 (records_in h) × Never (at_fault image h) 1 h.nodes
  all = facts image h (load_of image) (answers image) loaded

  pub header_right : HeaderRight image h
  header_right = all.0

  no_bad_record : bad_record image h ≡ None
  unfolding bad_record
  no_bad_record = rw (is_nowhere (record_bad image h) 0 (records_in h) all.1)

  -- every record is good
  pub function_loaded : (f : ℕ) → f < h.functions → function_good h (function_at image f) ≡ true
  function_loaded = function_good_lem image h no_bad_record

  pub literal_loaded : (l : ℕ) → l < h.literals → literal_good image h l ≡ true
  literal_loaded = literal_good_lem image h no_bad_record

  module _ (n : ℕ) (first : 1 ≤ n) (last : n ≤ h.nodes) where
    abbrev d : Node
    d = node_at image h n

    pub node_loaded : Good image h d
    node_loaded = good_node image h d (node_good_lem image h no_bad_record n first last)

    pub kind_known : (1 ≤ d.kind) × (d.kind ≤ 23)
    kind_known = known_kind d.kind d.op node_loaded.op

    right : node_right image h n d ≡ true
    right = not-false (node_right image h n d) (all.2 n first (omega arith))

    -- its three parts: it names well, its target is short, it is named well
    three : (names_well image h n (chain_by image h h.nodes n) d ≡ true) × (leb (parts image h 65 n) 64 ≡ true)
        × (is_named_well h n d.kind (times n (namings image h)) (times n (bodies image h.functions)) ≡ true)
    unfolding node_right
    three =
        let a = names_well image h n (chain_by image h h.nodes n) d in
        let b = leb (parts image h 65 n) 64 in
        let c = is_named_well h n d.kind (times n (namings image h)) (times n (bodies image h.functions)) in
        let outer = and_both (a && b) c right in
        let inner = and_both a b outer.0 in
        (inner.0, inner.1, outer.1)

    fields : (goes image h n (row_of d.kind).a d.a ≡ true) × (goes image h n (row_of d.kind).b d.b ≡ true)
        × (goes image h n (row_of (chain_by image h h.nodes n)).a d.next ≡ true)
    unfolding names_well
    fields =
        let a = goes image h n (row_of d.kind).a d.a in
        let b = goes image h n (row_of d.kind).b d.b in
        let outer = and_both (a && b) (goes image h n (row_of (chain_by image h h.nodes n)).a d.next) three.0 in
        let inner = and_both a b outer.0 in
        (inner.0, inner.1, outer.1)

    -- a field that names a node, by what it names
    by_role : (role : Role) (needed heads : Bool) (class : Class) (x : ℕ) → role ≡ NodeRole needed heads class → fits image h role x ≡ true → goes image h n role x ≡ true → Reaches image h n class x
    by_role role needed heads class x e f g =
        reach image h n needed heads class x (subst (λ (r : Role). goes image h n r x ≡ true) e g)
        (subst (λ (r : Role). named r x ≤ h.nodes) e (fits_named image h role x f))

    pub a_reaches : (needed heads : Bool) (class : Class) → (row_of d.kind).a ≡ NodeRole needed heads class → Reaches image h n class d.a
    a_reaches needed heads class e = by_role (row_of d.kind).a needed heads class d.a e node_loaded.a fields.0

    pub b_reaches : (needed heads : Bool) (class : Class) → (row_of d.kind).b ≡ NodeRole needed heads class → Reaches image h n class d.b
    b_reaches needed heads class e = by_role (row_of d.kind).b needed heads class d.b e node_loaded.b fields.1

    -- next goes on with the chain that the node stands in
    pub next_reaches : (needed heads : Bool) (class : Class) → (row_of (chain_by image h h.nodes n)).a ≡ NodeRole needed heads class → Reaches image h n class d.next
    next_reaches needed heads class e =
        reach image h n needed heads class d.next (subst (λ (r : Role). goes image h n r d.next ≡ true) e fields.2) node_loaded.next

    -- so every chain ends: next is 0 or goes to a greater number
    next_by : (role : Role) → (row_of (chain_by image h h.nodes n)).a ≡ role → headed role ≡ true → (d.next ≡ 0) ⊎ (n < d.next)
    next_by Unlisted e t = absurd (true≢false (sym t))
    next_by Number e t = absurd (true≢false (sym t))
    next_by Literal e t = absurd (true≢false (sym t))
    next_by Text e t = absurd (true≢false (sym t))
    next_by Function e t = absurd (true≢false (sym t))
    next_by (NodeRole needed heads class) e t = ends (next_reaches needed heads class e)
      where
        ends : Reaches image h n class d.next → (d.next ≡ 0) ⊎ (n < d.next)
        ends (nothing z) = inl z
        ends (on l _ _) = inr l

    pub chain_ends : (d.next ≡ 0) ⊎ (n < d.next)
    unfolding goes row_of table
    chain_ends =
        ⊎_elim
        (λ z. inl (eqb-true d.next 0 (subst (λ (k : ℕ). goes image h n (row_of k).a d.next ≡ true) z fields.2)))
        (λ t. next_by (row_of (chain_by image h h.nodes n)).a refl t)
        (chain_heads image h h.nodes n)

    pub few_parts : parts image h 65 n ≤ 64
    few_parts = leb-true (parts image h 65 n) 64 three.1

    -- it is named once; the root is an expression, and a body a scope
    named_well : (times n (namings image h) ≡ 1) × (not (eqb n h.root) || is_of Expression d.kind ≡ true) × (eqb (times n (bodies image h.functions)) 0 || is_of Scope d.kind ≡ true)
    unfolding is_named_well
    named_well =
        let once = eqb (times n (namings image h)) 1 in
        let root = not (eqb n h.root) || is_of Expression d.kind in
        let outer = and_both (once && root) (eqb (times n (bodies image h.functions)) 0 || is_of Scope d.kind) three.2 in
        let inner = and_both once root outer.0 in
        (eqb-true (times n (namings image h)) 1 inner.0, inner.1, outer.1)

    pub named_once : times n (namings image h) ≡ 1
    named_once = named_well.0

    pub root_expression : n ≡ h.root → is_of Expression d.kind ≡ true
    root_expression e = rw (eq-eqb n h.root e) at named_well.1

    pub body_scope : (times n (bodies image h.functions) ≡ 0 → ⊥) → is_of Scope d.kind ≡ true
    body_scope named = rw (ne_eqb (times n (bodies image h.functions)) 0 named) at named_well.2

  -- ---- literals

  -- a literal that a field asks to be text is there, and is text
  pub text_asked : (x : ℕ) → fits image h Text x ≡ true → (x < h.literals) × ((literal_at image h x).kind ≡ 6)
  unfolding fits
  text_asked x e =
      let both = and_both (ltb x h.literals) (eqb (literal_at image h x).kind 6) e in
      (ltb-true x h.literals both.0, eqb-true (literal_at image h x).kind 6 both.1)

  payload : (l : ℕ) → l < h.literals → payload_good image h l (literal_at image h l).kind (literal_at image h l).payload ≡ true
  unfolding literal_good
  payload l less = (and_both (eqb (literal_at image h l).zero 0) _ (literal_loaded l less)).1

  part_within : (l : ℕ) → part_good h (part_at image h l) ≡ true → (part_at image h l).start + (part_at image h l).length ≤ h.text
  unfolding part_good
  part_within l e = leb-true _ h.text (and_both (eqb (part_at image h l).zero 0) (leb ((part_at image h l).start + (part_at image h l).length) h.text) e).1

  -- a text part lies within the text and is UTF-8; a part of bytes lies within the text
  pub text_part : (l : ℕ) → l < h.literals → (literal_at image h l).kind ≡ 6
      → ((part_at image h l).start + (part_at image h l).length ≤ h.text) × (utf8_of (part_of image h (part_at image h l)) ≡ true)
  unfolding payload_good
  text_part l less k =
      let both = and_both (part_good h (part_at image h l)) (utf8_of (part_of image h (part_at image h l))) (rw k at (payload l less)) in
      (part_within l both.0, both.1)

  pub bytes_part : (l : ℕ) → l < h.literals → (literal_at image h l).kind ≡ 7 → (part_at image h l).start + (part_at image h l).length ≤ h.text
  unfolding payload_good
  bytes_part l less k = part_within l (rw k at (payload l less))
