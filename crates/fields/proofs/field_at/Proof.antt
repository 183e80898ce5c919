-- `fields::field_at` meets its contract: what has been read so far is the field of as many bits, and each byte adds its part (`field_more`). Assumes nothing.
use mathlib.Core.Path.{◌≡◌, sym, ap, ◌∙◌, subst}
use Prim.Native.Nat.{ℕ, ◌<◌, ◌≤◌, ◌*◌, ◌+◌, ◌-◌, ◌/◌, ◌%◌, ◌^◌}
use native.Mathlib.Nat.{sub_self}
use native.Mathlib.Omega.{arith}
use lib.ListN.{get_or}
use Rattle.fields.specs.Field.{field_of}
use Rattle.fields.proofs.Laws.{field_more, field_below, room_for}
use Rattle.fields.proofs.field_at.Statement.{statement}
use Rattle.fields.proofs.field_at.Tie as tie

abbrev invariant-loop-room : tie.invariant-loop-room
invariant-loop-room bytes bit width k₀ room₀ left₀ acc₀ k room left acc = (left ≤ width) × (1 ≤ room) × (room ≤ 8) × (8 * k + 8 + left ≡ bit + width + room) × (acc ≡ field_of bytes bit (width - left))

abbrev decreases-loop-room : tie.decreases-loop-room
decreases-loop-room bytes bit width k₀ room₀ left₀ acc₀ k room left acc = left

-- what has been read has room for t bits more
fits : (c : tie.At-loop-room invariant-loop-room decreases-loop-room) (t : ℕ) → t ≤ c.loop-room.left → c.loop-room.acc * 2 ^ t + 2 ^ t ≤ 2 ^ 64
fits c t h =
    let a = c.args in
    let p = c.requires in
    let i = c.loop-room.invariant in
    room_for c.loop-room.acc (a.width - c.loop-room.left) t 64
    (subst (λ (n : ℕ). n < 2 ^ (a.width - c.loop-room.left)) (sym i.4) (field_below a.bytes.now a.bit (a.width - c.loop-room.left)))
    (omega arith)

-- t bits more of byte k, with s bits after them
step : (c : tie.At-loop-room invariant-loop-room decreases-loop-room) (t s r w : ℕ) → t + s ≡ c.loop-room.room → t ≤ c.loop-room.left → c.args.width - c.loop-room.left + t ≡ w
    → r ≡ c.loop-room.acc * 2 ^ t + get_or c.args.bytes.now c.loop-room.k 0 / 2 ^ s % 2 ^ t
    → r ≡ field_of c.args.bytes.now c.args.bit w
step c t s r w e h d q =
    let a = c.args in
    let i = c.loop-room.invariant in
    q ∙ field_more a.bytes.now a.bit (a.width - c.loop-room.left) c.loop-room.k (8 - c.loop-room.room) t s c.loop-room.acc i.4 (omega arith) (omega arith)
    ∙ ap (field_of a.bytes.now a.bit) d

overflow_cast-room : tie.Need-overflow_cast-room invariant-loop-room decreases-loop-room
overflow_cast-room c = omega arith

overflow_sub-room : tie.Need-overflow_sub-room invariant-loop-room decreases-loop-room
overflow_sub-room c = omega arith

loop-room-init : tie.Need-loop-room-init invariant-loop-room decreases-loop-room
unfolding field_of
loop-room-init c =
    let a = c.args in
    (omega arith, omega arith, omega arith, omega arith, sym (ap (field_of a.bytes.now a.bit) (sub_self a.width)))

more-acc-requires : tie.Need-more-acc-requires invariant-loop-room decreases-loop-room
more-acc-requires c κs = (omega arith, omega arith, fits c.before c.loop-room.room c.loop-room-test.true)

overflow_add-k : tie.Need-overflow_add-k invariant-loop-room decreases-loop-room
overflow_add-k c = omega arith

loop-room-smaller : tie.Need-loop-room-smaller invariant-loop-room decreases-loop-room
loop-room-smaller c = omega arith

loop-room-preserved : tie.Need-loop-room-preserved invariant-loop-room decreases-loop-room
loop-room-preserved c =
    let l = c.before.before in
    (omega arith, omega arith, omega arith, omega arith, step l l.loop-room.room 0 c.more-acc.result _ (omega arith) c.loop-room-test.true (omega arith) c.more-acc.ensures)

returns-then-left-eq0 : tie.Need-returns-then-left-eq0 invariant-loop-room decreases-loop-room
returns-then-left-eq0 c =
    let l = c.before.before in
    let a = l.args in
    let e : a.width - l.loop-room.left ≡ a.width = omega arith in
    l.loop-room.invariant.4 ∙ ap (field_of a.bytes.now a.bit) e

overflow_sub-room-2 : tie.Need-overflow_sub-room-2 invariant-loop-room decreases-loop-room
overflow_sub-room-2 c = omega arith

more-requires : tie.Need-more-requires invariant-loop-room decreases-loop-room
more-requires c κs = (omega arith, omega arith, fits c.before.before c.loop-room.left (omega arith))

returns : tie.Need-returns invariant-loop-room decreases-loop-room
returns c =
    let l = c.before.before.before in
    step l l.loop-room.left (l.loop-room.room - l.loop-room.left) c.more.result _ (omega arith) (omega arith) (omega arith) c.more.ensures

pub field_at_spec : {M : Type 1} → statement M
field_at_spec =
    tie.close
    (tie.spec
    invariant-loop-room
    decreases-loop-room
    overflow_cast-room
    overflow_sub-room
    loop-room-init
    more-acc-requires
    overflow_add-k
    loop-room-smaller
    loop-room-preserved
    returns-then-left-eq0
    overflow_sub-room-2
    more-requires
    returns)
