-- The three demands, over the one promise of `evaluate`. Assumes nothing.
use mathlib.Core.Path.{◌≡◌, refl, sym, ap, ◌∙◌, subst}
use mathlib.Core.Logic.{inl, inr}
use mathlib.Core.List.{List, [], ◌∷◌, ◌++◌}
use Prim.Native.Nat.{ℕ, ◌*◌, ◌≤◌, ◌<◌}
use native.Mathlib.Omega.{arith}
use lib.ListN.{length, drop}
use Rattle.packed.specs.declared.layout.Header.{Header}
use Rattle.std.proofs.Common.{Result, Ok, Err}
use Rattle.image.specs.declared.LoadError.{LoadError}
use Rattle.image.specs.declared.LoadError.TheVariants.{BadLength, BadHeader, BadRecord, BadTree}
use Rattle.image.proofs.Loads.{header_right}
use Rattle.rules.specs.Output.{Encoded, bits, nested, full}
use Rattle.image.specs.Load.{load_of, error_number}
use Rattle.rules.specs.declared.Answer.{Answer}
use Rattle.rules.specs.declared.Answer.TheVariants.{Value, NotLoaded, StoreTooShort, Spent}
use Rattle.rules.specs.Answer.{number_of, place_of, steps_of}
use Rattle.rules.specs.Machine.{Cfg}
use Rattle.rules.specs.Runs.{start, End, refused, finished, Ends, NeverEnds, Answered, stopped, valued, Budgeted, ended, spent, of_encoded, out_of, value_encoded}
use Rattle.rules.specs.Marked.{Entry, marked, Right, All, no_more, also}
use Rattle.rules.proofs.Running.{budget_once, too_few, six_is_spent, first_part_lem}
use Rattle.rules.proofs.Marked.{marked_right}
use Rattle.pouring.proofs.Written.{encoded_keeps as keeps-room}
use Rattle.gablestrand.specs.Evaluate.{store_words, store_bytes, LongEnough, TooShort, cleared, Decided, unloaded, loaded, Evaluated, short, long, Told, length_of}

-- ---- the promise admits one answer only

not_both : (words bytes : List ℕ) → LongEnough words bytes → TooShort words bytes → ⊥
not_both words bytes l (inl s) = omega (arith, l.0)
not_both words bytes l (inr s) = omega (arith, l.1)

same_header : (image : List ℕ) (h k : Header) → load_of image ≡ Ok h → load_of image ≡ Ok k → h ≡ k
same_header image h k p q = (header_right image h p).is ∙ sym (header_right image k q).is

-- an image that loads is not refused
not_unloaded : (x : Result Header LoadError) (error : LoadError) (h : Header) → x ≡ Err error → x ≡ Ok h → ⊥
not_unloaded x error h e q = cc

same_error : (x : Result Header LoadError) (a b : LoadError) → x ≡ Err a → x ≡ Err b → a ≡ b
same_error x a b e q = cc

module _ (image : List ℕ) (b : ℕ) where
  decided_once : (out : List ℕ) {a a' : Answer} {o o' : List ℕ} → Decided image b out a o → Decided image b out a' o' → (a ≡ a') × (o ≡ o')
  decided_once out (unloaded p) (unloaded q) = (ap NotLoaded (same_error (load_of image) _ _ p q), refl)
  decided_once out (unloaded p) (loaded q y) = absurd (not_unloaded (load_of image) _ _ p q)
  decided_once out (loaded p x) (unloaded q) = absurd (not_unloaded (load_of image) _ _ q p)
  decided_once out {a} {a'} {o} {o'} (loaded {h = h} p x) (loaded {h = k} q y) =
      budget_once image h out (start image h) b a a' o o' x
      (subst (λ (g : Header). Budgeted image g out (start image g) b a' o') (same_header image k h q p) y)

  -- of stores that are long enough, whatever stands in them
  decided : {words bytes out w y o : List ℕ} {a : Answer} → LongEnough words bytes → Evaluated image b words bytes out a w y o → Decided image b out a o
  decided {words} {bytes} l (short s) = absurd (not_both words bytes l s)
  decided l (long _ d) = d

  pub evaluated_once : {words bytes out w w' y y' o o' : List ℕ} {a a' : Answer} → Evaluated image b words bytes out a w y o → Evaluated image b words bytes out a' w' y' o'
      → (a ≡ a') × (w ≡ w') × (y ≡ y') × (o ≡ o')
  evaluated_once (short s) (short t) = (refl, refl, refl, refl)
  evaluated_once {words} {bytes} (short s) (long l d) = absurd (not_both words bytes l s)
  evaluated_once {words} {bytes} (long l d) (short s) = absurd (not_both words bytes l s)
  evaluated_once {out = out} (long l d) (long m f) = let same = decided_once out d f in (same.0, refl, refl, same.1)

  pub told_once : {words bytes out w w' y y' o o' : List ℕ} {r r' p p' s s' n n' : ℕ} → Told image b words bytes out r p s n w y o → Told image b words bytes out r' p' s' n' w' y' o'
      → (r ≡ r') × (p ≡ p') × (s ≡ s') × (n ≡ n') × (w ≡ w') × (y ≡ y') × (o ≡ o')
  told_once t u =
      let same = evaluated_once t.evaluated u.evaluated in (
        t.the_number ∙ ap number_of same.0 ∙ sym u.the_number,
        t.the_place ∙ ap place_of same.0 ∙ sym u.the_place,
        t.the_steps ∙ ap steps_of same.0 ∙ sym u.the_steps,
        t.the_length ∙ ap length_of same.0 ∙ sym u.the_length,
        same.1,
        same.2,
        same.3,
      )

  -- ---- demand 1: "If both stores are long enough, the part of each that 01 names ends as zero; otherwise neither is touched"

  pub stores_cleared : {words bytes out w y o : List ℕ} {a : Answer} → Evaluated image b words bytes out a w y o → LongEnough words bytes
      → (w ≡ cleared store_words words) × (y ≡ cleared store_bytes bytes)
  stores_cleared {words} {bytes} (short s) l = absurd (not_both words bytes l s)
  stores_cleared (long _ d) l = (refl, refl)

  pub stores_untouched : {words bytes out w y o : List ℕ} {a : Answer} → Evaluated image b words bytes out a w y o → TooShort words bytes
      → (a ≡ StoreTooShort) × (w ≡ words) × (y ≡ bytes) × (o ≡ out)
  stores_untouched (short _) s = (refl, refl, refl, refl)
  stores_untouched {words} {bytes} (long l d) s = absurd (not_both words bytes l s)

  -- "a refusal leaves the output untouched"
  encoded_keeps : (h : Header) (n : ℕ) (out : List ℕ) (e : Encoded) → 1 ≤ number_of (of_encoded image h n e) → out_of image h out e ≡ out
  encoded_keeps h n out (bits bs) l = absurd (omega arith)
  encoded_keeps h n out nested l = refl
  encoded_keeps h n out full l = refl

  answered_keeps : (h : Header) {out o : List ℕ} {e : Cfg} {n : ℕ} {a : Answer} → Answered image h out e n a o → 1 ≤ number_of a → o ≡ out
  answered_keeps h stopped l = refl
  answered_keeps h {out} {n = n} (valued {v = v} {σ = σ}) l = encoded_keeps h n out (value_encoded image h out v σ) l

  pub refusal_keeps : {words bytes out w y o : List ℕ} {a : Answer} → Evaluated image b words bytes out a w y o → 1 ≤ number_of a → o ≡ out
  refusal_keeps (short s) l = refl
  refusal_keeps (long _ (unloaded p)) l = refl
  refusal_keeps (long _ (loaded {h = h} p (ended x m r))) l = answered_keeps h r l
  refusal_keeps (long _ (loaded p (spent x))) l = refl

  -- "Contents at entry change nothing"
  pub contents_change_nothing : {words words₂ bytes bytes₂ out w w₂ y y₂ o o₂ : List ℕ} {a a₂ : Answer} → Evaluated image b words bytes out a w y o → Evaluated image b words₂ bytes₂ out a₂ w₂ y₂ o₂
      → LongEnough words bytes → LongEnough words₂ bytes₂ → (a ≡ a₂) × (o ≡ o₂)
  contents_change_nothing {out = out} x y l m = decided_once out (decided l x) (decided m y)

-- ---- demand 3: a table that loads, stores that are long enough, an output of some fixed length

module _ (image : List ℕ) (h : Header) (loads : load_of image ≡ Ok h) (words bytes out : List ℕ) (enough : LongEnough words bytes) where
  budgeted : {b : ℕ} {a : Answer} {w y o : List ℕ} → Evaluated image b words bytes out a w y o → Budgeted image h out (start image h) b a o
  budgeted {b} x = go (decided image b enough x)
    where
      go : {a : Answer} {o : List ℕ} → Decided image b out a o → Budgeted image h out (start image h) b a o
      go (unloaded p) = absurd (not_unloaded (load_of image) _ _ p loads)
      go {a} {o} (loaded {h = k} p r) = subst (λ (g : Header). Budgeted image g out (start image g) b a o) (same_header image k h p loads) r

  answered_steps : {e : Cfg} {n : ℕ} {a : Answer} {o : List ℕ} → Answered image h out e n a o → steps_of a ≡ n
  answered_steps stopped = refl
  answered_steps {n = n} (valued {v = v} {σ = σ}) = go (value_encoded image h out v σ)
    where
      go : (e : Encoded) → steps_of (of_encoded image h n e) ≡ n
      go (bits bs) = refl
      go nested = refl
      go full = refl

  -- "If the rules bring it to an end after exactly n steps, every budget of n or more gives that end: same place, same output, n reported"
  pub every_enough : {n b : ℕ} {e : Cfg} {a r : Answer} {after w y o : List ℕ} → Ends image h (start image h) n e → Answered image h out e n a after → n ≤ b → Evaluated image b words bytes out r w y o
      → (r ≡ a) × (o ≡ after) × (steps_of r ≡ n)
  every_enough {n} {b} {e} {a} {r} {after} {w} {y} {o} x s l v =
      let same = budget_once image h out (start image h) b r a o after (budgeted v) (ended x l s) in
      (same.0, same.1, ap steps_of same.0 ∙ answered_steps s)

  pub enough_agree : {n b c : ℕ} {e : Cfg} {r q : Answer} {w y o w₂ y₂ o₂ : List ℕ} → Ends image h (start image h) n e → n ≤ b → n ≤ c
      → Evaluated image b words bytes out r w y o → Evaluated image c words bytes out q w₂ y₂ o₂ → (r ≡ q) × (o ≡ o₂)
  enough_agree {n} {b} {c} {e} x l m v u =
      let end = answer_of x.end in
      let one = every_enough x end.2 l v in
      let two = every_enough x end.2 m u in
      (one.0 ∙ sym two.0, one.1 ∙ sym two.1)
    where
      answer_of : {d : Cfg} → End d → (a : Answer) × (after : List ℕ) × Answered image h out d n a after
      answer_of refused = (_, _, stopped)
      answer_of finished = (_, _, valued)

  -- "Every smaller budget b gives refusal 6 and reports b"
  pub every_smaller : {n b : ℕ} {e : Cfg} {r : Answer} {w y o : List ℕ} → Ends image h (start image h) n e → b < n → Evaluated image b words bytes out r w y o
      → (number_of r ≡ 6) × (steps_of r ≡ b) × (o ≡ out)
  every_smaller {n} {b} {e} {r} {w} {y} {o} x l v =
      let few = too_few image h out (start image h) n b e x l in
      let same = budget_once image h out (start image h) b r (Spent few.0 b) o out (budgeted v) few.1 in
      (ap number_of same.0, ap steps_of same.0, same.1)

  -- "If the rules never end, every budget b gives refusal 6 and reports b"
  pub every_if_never : {b : ℕ} {r : Answer} {w y o : List ℕ} → NeverEnds image h (start image h) → Evaluated image b words bytes out r w y o
      → (number_of r ≡ 6) × (steps_of r ≡ b) × (o ≡ out)
  every_if_never {b} {r} {w} {y} {o} never v = go (budgeted v)
    where
      go : {a : Answer} {z : List ℕ} → Budgeted image h out (start image h) b a z → (number_of a ≡ 6) × (steps_of a ≡ b) × (z ≡ out)
      go (ended {n = n} {e = e} x l s) = absurd (never.never n e x)
      go (spent x) = (refl, refl, refl)

-- "Refusal 6 is given in no other case": the table loads, the stores are long enough, and every end comes after more steps
unloaded_is_not_6 : (error : LoadError) → error_number error ≡ 6 → ⊥
unloaded_is_not_6 BadLength e = omega arith
unloaded_is_not_6 BadHeader e = omega arith
unloaded_is_not_6 (BadRecord place) e = omega arith
unloaded_is_not_6 (BadTree n) e = omega arith

pub six_only : (image : List ℕ) (b : ℕ) {words bytes out w y o : List ℕ} {r : Answer} → Evaluated image b words bytes out r w y o → number_of r ≡ 6
    → (h : Header) × LongEnough words bytes × (load_of image ≡ Ok h) × ((n : ℕ) (e : Cfg) → Ends image h (start image h) n e → b < n)
six_only image b (short s) q = absurd (omega arith)
six_only image b (long l (unloaded {error = error} p)) q = absurd (unloaded_is_not_6 error q)
six_only image b {out = out} (long l (loaded {h = h} {answer = a} {out' = o} p x)) q =
    let spent = six_is_spent image h out (start image h) b a o x q in
    (h, l, p, λ n e. first_part_lem image h (start image h) b spent.0 n e spent.1)

-- ---- demand 2 on 01's marked list: each of its entries, whatever the stores and the output hold

pub record AnsweredAs (e : Entry) : Type 0 where
  pub answers : (words bytes out : List ℕ) → LongEnough words bytes → length out ≡ 4096 → {r : Answer} {w y o : List ℕ} → Evaluated e.image e.budget words bytes out r w y o
      → (number_of r ≡ e.number) × (place_of r ≡ e.place) × (steps_of r ≡ e.steps) × (o ≡ e.output ++ drop (length e.output) out)

pub data AllAnswered : List Entry → Type 0 where
  none : AllAnswered []
  and : {e : Entry} {es : List Entry} → AnsweredAs e → AllAnswered es → AllAnswered (e ∷ es)

entry_answered : (e : Entry) → Right e → AnsweredAs e
entry_answered e right = record { answers = answer }
  where
    answer : (words bytes out : List ℕ) → LongEnough words bytes → length out ≡ 4096 → {r : Answer} {w y o : List ℕ} → Evaluated e.image e.budget words bytes out r w y o
        → (number_of r ≡ e.number) × (place_of r ≡ e.place) × (steps_of r ≡ e.steps) × (o ≡ e.output ++ drop (length e.output) out)
    answer words bytes out l z {r} {w} {y} {o} v =
        let h = right.header in
        let said = right.answers out z in
        let same = budget_once e.image h out (start e.image h) e.budget r said.0 o said.1 (budgeted e.image h right.loads words bytes out l v) said.2 in (
          ap number_of same.0 ∙ said.3,
          ap place_of same.0 ∙ said.4,
          ap steps_of same.0 ∙ said.5,
          same.1 ∙ said.6,
        )

all_answered : {es : List Entry} → All es → AllAnswered es
all_answered no_more = none
all_answered (also {e = e} right rest) = and (entry_answered e right) (all_answered rest)

pub marked_answered : AllAnswered marked
marked_answered = all_answered marked_right

-- ---- a value is no longer than the output

bits_within : (image : List ℕ) (h : Header) (n : ℕ) (out : List ℕ) (e : Encoded) → ((bs : List ℕ) → e ≡ bits bs → length bs ≤ 8 * length out) → length_of (of_encoded image h n e) ≤ length out
bits_within image h n out (bits bs) s = omega (arith, s bs refl)
bits_within image h n out nested s = omega arith
bits_within image h n out full s = omega arith

answered_within : (image : List ℕ) (h : Header) {out o : List ℕ} {n : ℕ} {c : Cfg} {a : Answer} → Answered image h out c n a o → length_of a ≤ length out
answered_within image h stopped = omega arith
answered_within image h {out = out} {n = n} (valued {v = v} {σ = σ}) =
    bits_within image h n out (value_encoded image h out v σ) ((keeps-room image h σ 64).keeps (8 * length out) v)

length-within : {image words bytes out w y o : List ℕ} {b : ℕ} {a : Answer} → Evaluated image b words bytes out a w y o → length_of a ≤ length out
length-within (short s) = omega arith
length-within (long _ (unloaded p)) = omega arith
length-within {image} (long _ (loaded {h = h} p (ended x l told))) = answered_within image h told
length-within (long _ (loaded p (spent x))) = omega arith

pub value_within : {image words bytes out w y o : List ℕ} {b : ℕ} {a : Answer} → Evaluated image b words bytes out a w y o → (l s : ℕ) → a ≡ Value l s → l ≤ length out
value_within e l s is = omega (arith, length-within e, ap length_of is)
