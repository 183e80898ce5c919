-- `fields::put_at` meets its contract: what has been put so far is the value without its last bits, and each byte adds its part (`put_then`). Assumes nothing.
use mathlib.Core.Path.{◌≡◌, sym, ap, ap₂, ◌∙◌, subst, subst₂}
use Prim.Native.Nat.{ℕ, ◌<◌, ◌≤◌, ◌*◌, ◌+◌, ◌-◌, ◌/◌, ◌%◌, ◌^◌}
use native.Mathlib.Nat.{mod-lt, sub_self, div-one}
use native.Mathlib.Omega.{arith}
use lib.Pow.{pow_pos}
use mathlib.Core.List.{List}
use Rattle.fields.specs.Field.{Put}
use Rattle.fields.proofs.Putting.{put_none, put_then, next_digits}
use Rattle.fields.proofs.put_at.Statement.{statement}
use Rattle.fields.proofs.put_at.Tie as tie

abbrev invariant-loop-room : tie.invariant-loop-room
invariant-loop-room out₀ bit width value k₀ room₀ left₀ out k room left = (left ≤ width) × (1 ≤ room) × (room ≤ 8) × (8 * k + 8 + left ≡ bit + width + room) × Put out₀ out bit (width - left) (value / 2 ^ left)

abbrev decreases-loop-room : tie.decreases-loop-room
decreases-loop-room out₀ bit width value k₀ room₀ left₀ out k room left = left

-- t bits more of byte k, with s bits after them, which leave r bits of the value
step : (c : tie.At-loop-room invariant-loop-room decreases-loop-room) (t s r v w : ℕ) (after : List ℕ) → t + s ≡ c.loop-room.room → r + t ≡ c.loop-room.left
    → c.args.width - c.loop-room.left + t ≡ w
    → v ≡ c.args.value / 2 ^ r % 2 ^ t
    → Put c.loop-room.out after (8 * c.loop-room.k + (8 - (s + t))) t v
    → Put c.args.out.now after c.args.bit w (c.args.value / 2 ^ r)
step c t s r v w after e h d q p =
    let a = c.args in
    let i = c.loop-room.invariant in
    let at : 8 * c.loop-room.k + (8 - (s + t)) ≡ a.bit + (a.width - c.loop-room.left) = omega arith in
    let there : Put c.loop-room.out after (a.bit + (a.width - c.loop-room.left)) t v = subst (λ (n : ℕ). Put c.loop-room.out after n t v) at p in
    let both = put_then a.out.now c.loop-room.out after a.bit (a.width - c.loop-room.left) t (a.value / 2 ^ c.loop-room.left) v i.4 there in
    let val : a.value / 2 ^ c.loop-room.left * 2 ^ t + v ≡ a.value / 2 ^ r =
    ap₂ (λ (m n : ℕ). a.value / 2 ^ m * 2 ^ t + n) (sym h) q ∙ next_digits a.value r t in
    subst₂ (λ (m n : ℕ). Put a.out.now after a.bit m n) d val both

overflow_cast-room : tie.Need-overflow_cast-room invariant-loop-room decreases-loop-room
overflow_cast-room c = omega arith

overflow_sub-room : tie.Need-overflow_sub-room invariant-loop-room decreases-loop-room
overflow_sub-room c = omega arith

loop-room-init : tie.Need-loop-room-init invariant-loop-room decreases-loop-room
loop-room-init c =
    let a = c.args in (
      omega arith,
      omega arith,
      omega arith,
      omega arith,
      subst (λ (n : ℕ). Put a.out.now a.out.now a.bit n (a.value / 2 ^ a.width)) (sym (sub_self a.width))
          (put_none a.out.now a.bit a.value a.width c.requires.2),
    )

down-requires : tie.Need-down-requires invariant-loop-room decreases-loop-room
down-requires c κs = omega arith

low-requires : tie.Need-low-requires invariant-loop-room decreases-loop-room
low-requires c κs = omega arith

put_in-requires : tie.Need-put_in-requires invariant-loop-room decreases-loop-room
put_in-requires c κs = (omega (arith, c.loop-room.invariant.4.long), omega arith, subst (λ (n : ℕ). n < 2 ^ c.loop-room.room) (sym c.low.ensures) (mod-lt _ (pow_pos _)))

overflow_add-k : tie.Need-overflow_add-k invariant-loop-room decreases-loop-room
overflow_add-k c = omega arith

loop-room-smaller : tie.Need-loop-room-smaller invariant-loop-room decreases-loop-room
loop-room-smaller c = omega arith

loop-room-preserved : tie.Need-loop-room-preserved invariant-loop-room decreases-loop-room
loop-room-preserved c =
    let u = c.before.before in
    let l = u.before.before.before.before.before in (
      omega arith,
      omega arith,
      omega arith,
      omega arith,
      step l l.loop-room.room 0 (l.loop-room.left - l.loop-room.room) u.low.result _ _ (omega arith) (omega arith) (omega arith)
          (u.low.ensures ∙ ap (λ (n : ℕ). n % 2 ^ l.loop-room.room) u.down.ensures) u.put_in.ensures,
    )

shape_of-out-then-left-eq0 : tie.Need-shape_of-out-then-left-eq0 invariant-loop-room decreases-loop-room
shape_of-out-then-left-eq0 c = c.loop-room.invariant.4.long

returns-then-left-eq0 : tie.Need-returns-then-left-eq0 invariant-loop-room decreases-loop-room
returns-then-left-eq0 c =
    let l = c.before.before in
    let a = l.args in
    let e : a.width - l.loop-room.left ≡ a.width = omega arith in
    let z : a.value / 2 ^ l.loop-room.left ≡ a.value = ap (λ (n : ℕ). a.value / 2 ^ n) c.if-left-eq0.true ∙ div-one a.value in
    subst₂ (λ (m n : ℕ). Put a.out.now l.loop-room.out a.bit m n) e z l.loop-room.invariant.4

overflow_sub-room-2 : tie.Need-overflow_sub-room-2 invariant-loop-room decreases-loop-room
overflow_sub-room-2 c = omega arith

low-requires-2 : tie.Need-low-requires-2 invariant-loop-room decreases-loop-room
low-requires-2 c κs = omega arith

put_in-requires-2 : tie.Need-put_in-requires-2 invariant-loop-room decreases-loop-room
put_in-requires-2 c κs = (omega (arith, c.loop-room.invariant.4.long), omega arith, subst (λ (n : ℕ). n < 2 ^ c.loop-room.left) (sym c.low-2.ensures) (mod-lt _ (pow_pos _)))

shape_of-out : tie.Need-shape_of-out invariant-loop-room decreases-loop-room
shape_of-out c = c.put_in-2.ensures.long ∙ c.loop-room.invariant.4.long

returns : tie.Need-returns invariant-loop-room decreases-loop-room
returns c =
    let u = c.before.before in
    let l = u.before.before.before.before.before in
    let a = l.args in
    subst (λ (n : ℕ). Put a.out.now u.put_in-2.new.out a.bit a.width n) (div-one a.value)
    (step l l.loop-room.left (l.loop-room.room - l.loop-room.left) 0 u.low-2.result _ _ (omega arith) (omega arith) (omega arith)
    (u.low-2.ensures ∙ ap (λ (n : ℕ). n % 2 ^ l.loop-room.left) (sym (div-one a.value))) u.put_in-2.ensures)

pub put_at_spec : {M : Type 1} → statement M
put_at_spec =
    tie.close
    (tie.spec
    invariant-loop-room
    decreases-loop-room
    overflow_cast-room
    overflow_sub-room
    loop-room-init
    down-requires
    low-requires
    put_in-requires
    overflow_add-k
    loop-room-smaller
    loop-room-preserved
    shape_of-out-then-left-eq0
    returns-then-left-eq0
    overflow_sub-room-2
    low-requires-2
    put_in-requires-2
    shape_of-out
    returns)
