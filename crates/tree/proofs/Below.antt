-- Node numbers of a record are below 4096, as their fields have 12 bits. Assumes nothing.
use mathlib.Core.Path.{◌≡◌, sym, subst}
use mathlib.Core.List.{List}
use Prim.Native.Nat.{ℕ, ◌+◌, ◌*◌, ◌<◌}
use Rattle.fields.proofs.Laws.{field_below}
use Rattle.packed.specs.declared.layout.Header.{Header}
use Rattle.packed.specs.declared.layout.Function.{Function}
use Rattle.packed.specs.declared.layout.Node.{Node}
use Rattle.packed.specs.Layout.{header_of, function_offset, function_at, node_offset, node_at}

pub node_below : (image : List ℕ) (h : Header) (n : ℕ) (d : Node) → d ≡ node_at image h n → (d.a < 4096) × (d.b < 4096) × (d.next < 4096)
unfolding node_at
node_below image h n d e =
    let at = 8 * node_offset h n in
    subst (λ (m : Node). (m.a < 4096) × (m.b < 4096) × (m.next < 4096)) (sym e)
    (field_below image (at + 19) 12, field_below image (at + 31) 12, field_below image (at + 43) 12)

pub body_below : (image : List ℕ) (f : ℕ) (d : Function) → d ≡ function_at image f → d.body < 4096
unfolding function_at
body_below image f d e = subst (λ (m : Function). m.body < 4096) (sym e) (field_below image (8 * function_offset f + 0) 12)

pub header_below : (image : List ℕ) (h : Header) → h ≡ header_of image → (h.nodes < 4096) × (h.root < 4096)
unfolding header_of
header_below image h e =
    subst (λ (m : Header). (m.nodes < 4096) × (m.root < 4096)) (sym e) (field_below image (0 + 12) 12, field_below image (0 + 52) 12)
