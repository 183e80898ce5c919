-- 01's marked programs, proved together: a test that computes loading, machine and encoding for an entry, the law that turns it into what the
-- entry says, and the test computed over the whole list. Assumes nothing.
use mathlib.Core.Path.{◌≡◌, refl, sym, ap, ap₂, ◌∙◌, subst}
use mathlib.Core.Bool.{Bool, true, false, ◌&&◌, true≢false}
use mathlib.Core.List.{List, [], ◌∷◌, ◌++◌}
use Prim.Native.Nat.{ℕ, zero, suc, ◌+◌, ◌*◌, ◌≤◌}
use native.Mathlib.Omega.{arith}
use native.Mathlib.Nat.{add-zero}
use mathlib.Core.Logic.{⊎_elim}
use Rattle.std.proofs.Common.{zero-le}
use borrow.Author.Tests.{eqb-true, eqb-false, ltb-true, ltb-false}
use Rattle.rules.proofs.Going.{iter_add, costs_add}
use Rattle.rules.proofs.Running.{cost_bit}
use lib.Dec.{ltb, eqb}
use lib.ListN.{length, drop}
use Rattle.fields.specs.Field.{field_of, bit_at}
use Rattle.utf8.specs.Utf8.{utf8_of, utf8_past, char_len, starts, row_of as utf8_row, table as utf8_table}
use Rattle.fields.proofs.Tests.{and_both}
use Rattle.packed.specs.declared.layout.Header.{Header}
use Rattle.packed.specs.Layout.{header_of, node_at, function_at, literal_at, part_at}
use Rattle.kinds.specs.Kinds.{row_of, table, tag_role}
use Rattle.std.specs.Prelude.{Result, Ok, Err, is_ok}
use Rattle.image.specs.declared.LoadError.{LoadError}
use Rattle.records.specs.First.{first_from}
use Rattle.records.specs.Records.{function_good, fits, node_good, part_good, part_of, payload_good, literal_good, record_good, record_offset, bad_record}
use Rattle.tree.specs.Tree.{times, names_of, bodies, node_names, namings, chain_by, goes, parts, names_well, is_named_well, node_right, lowest_fault}
use Rattle.image.specs.Load.{judged, load_of}
use Rattle.image.proofs.Loads.{header_right}
use Rattle.numbers.specs.Ints.{assign_of, binary_int_of}
use Rattle.numbers.specs.Words.{int_of}
use Rattle.rules.specs.declared.Value.{Value}
use Rattle.rules.specs.declared.Refusal.TheVariants.{Nesting, Room}
use Rattle.rules.specs.declared.Answer.{Answer}
use Rattle.rules.specs.declared.Answer.TheVariants.{Value as AValue, Refused, Spent}
use Rattle.rules.specs.Answer.{refusal_number, number_of, place_of, steps_of}
use Rattle.rules.specs.Store.{Store, same_text, last_of, declared, text_of, part_text, entry_at, item_at}
use Rattle.rules.specs.Targets.{read_target, target_place, target_set, target_assigned}
use Rattle.rules.specs.Building.{literal_of, literal_value, built_text, binary_of, entered, entries, template_text}
use Rattle.rules.specs.Machine.{kinds, kind_of, Ctl, enter, enter_body, again, work, instructions, items, arms, turn, test, ret, brk, Cfg, going, stop, chain, worked, completed, returned, broken, next, cost, takes_at}
use Rattle.rules.specs.Output.{Encoded, bits, nested, full, bits_of, inserted, sorted_entries, pieces, written_by, encoded, packed, bytes_for}
use Rattle.rules.specs.Runs.{End, refused, finished, start, iter, costs, Comes, Ends, AboutToTake, of_encoded, out_of, value_encoded, Answered, stopped, valued, Budgeted, ended, spent}
use Rattle.rules.specs.Marked.{Entry, marked, Right, All, no_more, also}

-- ---- a run that computes: where it comes to within so many transitions

data Ran : Type 0 where
  came : Cfg → ℕ → Ran
  took : Cfg → ℕ → Ran
  unknown : Ran

is_ret : Ctl → Bool
is_ret (enter n d) = false
is_ret (enter_body n d) = false
is_ret (again n d) = false
is_ret (work n d) = false
is_ret (instructions n i d s) = false
is_ret (items n i d p) = false
is_ret (arms n i d) = false
is_ret (turn n d s) = false
is_ret (test c d) = false
is_ret (ret v) = true
is_ret (brk b v) = false

is_end : Cfg → Bool
is_end (stop why place) = true
is_end (going t [] σ) = is_ret t
is_end (going t (f ∷ K) σ) = false

-- k takes were made before c; the flags say whether c is an end, whether it takes nothing, and whether a take is left
ran : List ℕ → Header → ℕ → ℕ → ℕ → Cfg → Bool → Bool → Bool → Ran
ran image h zero b k c end free more = unknown
ran image h (suc f) b k c true free more = came c k
ran image h (suc f) b k c false true more =
    let d = next image h c in ran image h f b k d (is_end d) (eqb (cost d) 0) (ltb k b)
ran image h (suc f) b k c false false true =
    let d = next image h c in ran image h f b (k + 1) d (is_end d) (eqb (cost d) 0) (ltb (k + 1) b)
ran image h (suc f) b k c false false false = took c k

-- 200 transitions are more than any of the programs makes
run : Entry → Ran
run e =
    let h = header_of e.image in
    let c = start e.image h in
    ran e.image h 200 e.budget 0 c (is_end c) (eqb (cost c) 0) (ltb 0 e.budget)

-- ---- what a run that computes says of the rules

end_so : (c : Cfg) → is_end c ≡ true → End c
unfolding is_end is_ret
end_so (stop why place) e = refused
end_so (going (enter n d) [] σ) e = absurd (true≢false (sym e))
end_so (going (enter_body n d) [] σ) e = absurd (true≢false (sym e))
end_so (going (again n d) [] σ) e = absurd (true≢false (sym e))
end_so (going (work n d) [] σ) e = absurd (true≢false (sym e))
end_so (going (instructions n i d s) [] σ) e = absurd (true≢false (sym e))
end_so (going (items n i d p) [] σ) e = absurd (true≢false (sym e))
end_so (going (arms n i d) [] σ) e = absurd (true≢false (sym e))
end_so (going (turn n d s) [] σ) e = absurd (true≢false (sym e))
end_so (going (test c d) [] σ) e = absurd (true≢false (sym e))
end_so (going (ret v) [] σ) e = finished
end_so (going (brk b v) [] σ) e = absurd (true≢false (sym e))
end_so (going t (f ∷ K) σ) e = absurd (true≢false (sym e))

takes_one : (c : Cfg) → eqb (cost c) 0 ≡ false → cost c ≡ 1
takes_one c e = ⊎_elim (λ z. absurd (eqb-false (cost c) 0 e z)) (λ o. o) (cost_bit c)

module _ (image : List ℕ) (h : Header) (c₀ : Cfg) (b : ℕ) where
  Sound : Ran → Type 0
  Sound (came e n) = Ends image h c₀ n e × (n ≤ b)
  Sound (took e n) = (n ≡ b) × AboutToTake image h c₀ n (takes_at e)
  Sound unknown = Unit

  on : (k m : ℕ) (c : Cfg) → Comes image h c₀ k c → cost c ≡ m → Comes image h c₀ (k + m) (next image h c)
  unfolding iter costs
  on k m c x z =
      let t = x.transitions in
      record {
        transitions = t + 1;
        there = iter_add image h t 1 c₀ ∙ ap (next image h) x.there;
        takes = costs_add image h t 1 c₀ ∙ (omega (arith, x.takes, ap cost x.there, z));
      }

  sound : (f k : ℕ) (c : Cfg) (end free more : Bool) → is_end c ≡ end → eqb (cost c) 0 ≡ free → ltb k b ≡ more → Comes image h c₀ k c → k ≤ b → Sound (ran image h f b k c end free more)
  unfolding ran Sound
  sound zero k c end free more p q r x l = tt
  sound (suc f) k c true free more p q r x l = (record { comes = x; end = end_so c p }, l)
  sound (suc f) k c false true more p q r x l =
      sound f k (next image h c) _ _ _ refl refl refl (subst (λ (n : ℕ). Comes image h c₀ n (next image h c)) (add-zero k) (on k 0 c x (eqb-true (cost c) 0 q))) l
  sound (suc f) k c false false true p q r x l =
      sound f (k + 1) (next image h c) _ _ _ refl refl refl (on k 1 c x (takes_one c q)) (omega (arith, ltb-true k b r))
  sound (suc f) k c false false false p q r x l =
      let same : k ≡ b = omega (arith, ltb-false k b r) in
      (same, record { at = c; comes = x; takes = takes_one c q; place = refl })

-- ---- what an entry says, as a test

same_so : (xs ys : List ℕ) → same_text xs ys ≡ true → xs ≡ ys
same_so [] [] e = refl
same_so [] (y ∷ ys) e = absurd (true≢false (sym e))
same_so (x ∷ xs) [] e = absurd (true≢false (sym e))
same_so (x ∷ xs) (y ∷ ys) e =
    let both = and_both (eqb x y) (same_text xs ys) e in
    let p = eqb-true x y both.0 in
    let q = same_so xs ys both.1 in
    λ i. p i ∷ q i

-- an answer with its number, place and steps, and with these bytes written
says : Entry → ℕ → ℕ → ℕ → List ℕ → Bool
says e number place steps written = eqb number e.number && eqb place e.place && eqb steps e.steps && same_text written e.output

-- what stands in front of the output
written_of : Encoded → List ℕ
written_of (bits bs) = packed (bytes_for bs) bs
written_of nested = []
written_of full = []

says_encoded : Entry → ℕ → Encoded → Bool
says_encoded e n x =
    let answer = of_encoded e.image (header_of e.image) n x in says e (number_of answer) (place_of answer) n (written_of x)

says_end : Entry → ℕ → Cfg → Bool
says_end e n (stop why place) = says e (refusal_number why) place n []
says_end e n (going (enter m d) K σ) = false
says_end e n (going (enter_body m d) K σ) = false
says_end e n (going (again m d) K σ) = false
says_end e n (going (work m d) K σ) = false
says_end e n (going (instructions m i d s) K σ) = false
says_end e n (going (items m i d p) K σ) = false
says_end e n (going (arms m i d) K σ) = false
says_end e n (going (turn m d s) K σ) = false
says_end e n (going (test c d) K σ) = false
says_end e n (going (ret v) [] σ) = says_encoded e n (encoded e.image (header_of e.image) σ 64 32768 v)
says_end e n (going (ret v) (f ∷ K) σ) = false
says_end e n (going (brk b v) K σ) = false

says_ran : Entry → Ran → Bool
says_ran e (came c n) = says_end e n c
says_ran e (took c n) = says e 6 (takes_at c) n []
says_ran e unknown = false

right : Entry → Bool
right e = is_ok (load_of e.image) && says_ran e (run e)

-- ---- the test is what the entry says

loads_so : (image : List ℕ) (x : Result Header LoadError) → load_of image ≡ x → is_ok x ≡ true → load_of image ≡ Ok (header_of image)
loads_so image (Ok h) e t = e ∙ ap Ok (header_right image h e).is
loads_so image (Err why) e t = absurd (true≢false (sym t))

record Said (e : Entry) (k p n : ℕ) (w : List ℕ) : Type 0 where
  number : k ≡ e.number
  place : p ≡ e.place
  steps : n ≡ e.steps
  written : w ≡ e.output

said : (e : Entry) (number place steps : ℕ) (written : List ℕ) → says e number place steps written ≡ true → Said e number place steps written
unfolding says
said e number place steps written t =
    let a = eqb number e.number in
    let b = eqb place e.place in
    let c = eqb steps e.steps in
    let three = and_both (a && b && c) (same_text written e.output) t in
    let two = and_both (a && b) c three.0 in
    let one = and_both a b two.0 in
    record {
      number = eqb-true number e.number one.0;
      place = eqb-true place e.place one.1;
      steps = eqb-true steps e.steps two.1;
      written = same_so written e.output three.1;
    }

packed_length : (n : ℕ) (bs : List ℕ) → length (packed n bs) ≡ n
unfolding packed
packed_length zero bs = refl
packed_length (suc n) bs = ap suc (packed_length n (drop 8 bs))

-- what `Right` asks of an answer
Told : Entry → List ℕ → Type 0
Told e out =
    (answer : Answer) × (after : List ℕ)
    × Budgeted e.image (header_of e.image) out (start e.image (header_of e.image)) e.budget answer after
    × (number_of answer ≡ e.number) × (place_of answer ≡ e.place) × (steps_of answer ≡ e.steps)
    × (after ≡ e.output ++ drop (length e.output) out)

module _ (e : Entry) (out : List ℕ) (long : length out ≡ 4096) where
  abbrev image : List ℕ
  image = e.image

  abbrev h : Header
  h = header_of e.image

  nothing_written : (written : List ℕ) → written ≡ e.output → [] ≡ written → out ≡ e.output ++ drop (length e.output) out
  nothing_written written p q = rw (sym p, sym q)

  by_encoded : (n : ℕ) (v : Value) (σ : Store) (x : Encoded) → value_encoded image h out v σ ≡ x → Ends image h (start image h) n (going (ret v) [] σ) → n ≤ e.budget → says_encoded e n x ≡ true → Told e out
  unfolding says_encoded written_of Told
  by_encoded n v σ (bits bs) q x l t =
      let s = said e 0 0 n (packed (bytes_for bs) bs) t in (
        AValue (bytes_for bs) n,
        packed (bytes_for bs) bs ++ drop (bytes_for bs) out,
        ended x l (subst (λ (y : Encoded). Answered image h out (going (ret v) [] σ) n (of_encoded image h n y) (out_of image h out y)) q valued),
        s.number,
        s.place,
        s.steps,
        ap₂ (λ (a : List ℕ) (k : ℕ). a ++ drop k out) s.written (sym (packed_length (bytes_for bs) bs) ∙ ap length s.written),
      )
  by_encoded n v σ nested q x l t =
      let s = said e 26 h.root n [] t in (
        Refused Nesting h.root n,
        out,
        ended x l (subst (λ (y : Encoded). Answered image h out (going (ret v) [] σ) n (of_encoded image h n y) (out_of image h out y)) q valued),
        s.number,
        s.place,
        s.steps,
        nothing_written [] s.written refl,
      )
  by_encoded n v σ full q x l t =
      let s = said e 27 h.root n [] t in (
        Refused Room h.root n,
        out,
        ended x l (subst (λ (y : Encoded). Answered image h out (going (ret v) [] σ) n (of_encoded image h n y) (out_of image h out y)) q valued),
        s.number,
        s.place,
        s.steps,
        nothing_written [] s.written refl,
      )

  by_end : (n : ℕ) (c : Cfg) → Ends image h (start image h) n c → n ≤ e.budget → says_end e n c ≡ true → Told e out
  unfolding says_end Told
  by_end n (stop why place) x l t =
      let s = said e (refusal_number why) place n [] t in
      (Refused why place n, out, ended x l stopped, s.number, s.place, s.steps, nothing_written [] s.written refl)
  by_end n (going (enter m d) K σ) x l t = absurd (true≢false (sym t))
  by_end n (going (enter_body m d) K σ) x l t = absurd (true≢false (sym t))
  by_end n (going (again m d) K σ) x l t = absurd (true≢false (sym t))
  by_end n (going (work m d) K σ) x l t = absurd (true≢false (sym t))
  by_end n (going (instructions m i d s) K σ) x l t = absurd (true≢false (sym t))
  by_end n (going (items m i d p) K σ) x l t = absurd (true≢false (sym t))
  by_end n (going (arms m i d) K σ) x l t = absurd (true≢false (sym t))
  by_end n (going (turn m d s) K σ) x l t = absurd (true≢false (sym t))
  by_end n (going (test c d) K σ) x l t = absurd (true≢false (sym t))
  by_end n (going (ret v) [] σ) x l t =
      by_encoded n v σ (encoded image h σ 64 32768 v) (ap (λ (k : ℕ). encoded image h σ 64 (8 * k) v) long) x l t
  by_end n (going (ret v) (f ∷ K) σ) x l t = absurd (true≢false (sym t))
  by_end n (going (brk b v) K σ) x l t = absurd (true≢false (sym t))

  by_run : (r : Ran) → Sound image h (start image h) e.budget r → says_ran e r ≡ true → Told e out
  unfolding Sound says_ran Told
  by_run (came c n) x t = by_end n c x.0 x.1 t
  by_run (took c n) x t =
      let s = said e 6 (takes_at c) n [] t in (
        Spent (takes_at c) e.budget,
        out,
        spent (subst (λ (k : ℕ). AboutToTake image h (start image h) k (takes_at c)) x.0 x.1),
        s.number,
        s.place,
        sym x.0 ∙ s.steps,
        nothing_written [] s.written refl,
      )
  by_run unknown x t = absurd (true≢false (sym t))

right_so : (e : Entry) → right e ≡ true → Right e
unfolding right run Told iter costs
right_so e t =
    let image = e.image in
    let h = header_of image in
    let c = start image h in
    let both = and_both (is_ok (load_of image)) (says_ran e (run e)) t in
    record {
      header = h;
      loads = loads_so image (load_of image) refl both.0;
      answers = λ out long.
          by_run e out long (run e)
          (sound image h c e.budget 200 0 c _ _ _ refl refl refl (record { transitions = 0; there = refl; takes = refl }) zero-le)
          both.1;
    }

-- ---- every entry

all_right : List Entry → Bool
all_right [] = true
all_right (e ∷ es) = right e && all_right es

all_so : (es : List Entry) → all_right es ≡ true → All es
unfolding all_right
all_so [] t = no_more
all_so (e ∷ es) t = let both = and_both (right e) (all_right es) t in also (right_so e both.0) (all_so es both.1)

pub marked_right : All marked
unfolding all_right right run ran is_end is_ret says_ran says_end says_encoded says written_of marked header_of field_of bit_at row_of table tag_role literal_at part_at node_at function_at first_from function_good fits node_good part_good part_of payload_good literal_good record_good record_offset bad_record times names_of bodies node_names namings chain_by goes parts names_well is_named_well node_right lowest_fault judged load_of last_of declared text_of part_text entry_at item_at read_target target_place target_set target_assigned literal_of literal_value built_text binary_of entered entries template_text kinds kind_of chain worked completed returned broken next cost takes_at assign_of binary_int_of int_of bits_of inserted sorted_entries pieces written_by encoded packed utf8_of utf8_past char_len starts utf8_row utf8_table
marked_right = all_so marked refl
