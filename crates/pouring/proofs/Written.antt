-- The laws of `written_by`: pieces after pieces, a number, bytes, and the room that they keep to. Assumes nothing.
use mathlib.Core.Path.{◌≡◌, refl, sym, ap, ◌∙◌}
use mathlib.Core.Bool.{Bool, true, false, cond}
use mathlib.Core.List.{List, [], ◌∷◌, ◌++◌, append_assoc, append-nil}
use Prim.Native.Nat.{ℕ, zero, suc, ◌-◌, ◌*◌, ◌≤◌, ◌<◌}
use native.Mathlib.Decide.{dec_le}
use native.Mathlib.Nat.{sub-zero}
use native.Mathlib.Omega.{arith}
use borrow.Author.Tests.{le-leb, lt-leb}
use lib.Dec.{leb}
use lib.ListN.{length, length-append}
use Rattle.packed.specs.declared.layout.Header.{Header}
use Rattle.rules.specs.declared.Value.{Value}
use Rattle.rules.specs.Store.{Store}
use Rattle.rules.specs.Output.{Piece, put, within, Encoded, bits, nested, full, after, and_then, bits_of, byte_pieces, pieces, written_by, encoded}
use Rattle.pouring.specs.Pouring.{byte_bits}
use Rattle.pouring.proofs.Bits.{length-bits}
use Rattle.pouring.proofs.Pouring.{length-byte_bits}

-- ---- one encoding after another

after_after : (bs cs : List ℕ) (e : Encoded) → after bs (after cs e) ≡ after (bs ++ cs) e
after_after bs cs (bits ds) = ap bits (sym (append_assoc bs cs ds))
after_after bs cs nested = refl
after_after bs cs full = refl

after_none : (e : Encoded) → after [] e ≡ e
after_none (bits bs) = refl
after_none nested = refl
after_none full = refl

after_then : (bs : List ℕ) (e : Encoded) (f g : List ℕ → Encoded) → ((cs : List ℕ) → f cs ≡ g (bs ++ cs)) → after bs (and_then e f) ≡ and_then (after bs e) g
after_then bs (bits cs) f g same = after_after bs cs (f cs) ∙ ap (after (bs ++ cs)) (same cs)
after_then bs nested f g same = refl
after_then bs full f g same = refl

pub then_none : (e : Encoded) → and_then e (λ bs. bits []) ≡ e
then_none (bits bs) = ap bits (append-nil bs)
then_none nested = refl
then_none full = refl

then_keeps : (room : ℕ) (e : Encoded) (f : List ℕ → Encoded) → ((cs : List ℕ) → e ≡ bits cs → length cs ≤ room)
    → ((cs ds : List ℕ) → e ≡ bits cs → f cs ≡ bits ds → length ds ≤ room - length cs)
    → (bs : List ℕ) → and_then e f ≡ bits bs → length bs ≤ room
then_keeps room (bits cs) f first second bs i = go (f cs) refl i
  where
    go : (g : Encoded) → f cs ≡ g → after cs g ≡ bits bs → length bs ≤ room
    go (bits ds) p q =
        let same : cs ++ ds ≡ bs = cc in
        omega (arith, first cs refl, second cs ds refl p, ap length same, length-append cs ds)
    go nested p q = cc
    go full p q = cc
then_keeps room nested f first second bs i = cc
then_keeps room full f first second bs i = cc

-- a way to write values keeps to the room
pub record KeepsRoom (write : ℕ → Value → Encoded) : Type 0 where
  pub keeps : (room : ℕ) (v : Value) (bs : List ℕ) → write room v ≡ bits bs → length bs ≤ room

module _ (image : List ℕ) (h : Header) (σ : Store) (write : ℕ → Value → Encoded) where
  abbrev written : ℕ → List Piece → Encoded
  written room ps = written_by image h σ write room ps

  -- what is left of the room after the bits of the first
  room_left : (room : ℕ) (qs : List Piece) (bs cs : List ℕ) → written (room - length bs - length cs) qs ≡ written (room - length (bs ++ cs)) qs
  room_left room qs bs cs =
      let e : room - length bs - length cs ≡ room - length (bs ++ cs) = omega (arith, length-append bs cs) in
      ap (λ (n : ℕ). written n qs) e

  -- pieces after pieces, into the room that the first leave
  pub written_append : (room : ℕ) (ps qs : List Piece) → written room (ps ++ qs) ≡ and_then (written room ps) (λ bs. written (room - length bs) qs)
  unfolding written_by
  written_append room [] qs = sym (after_none (written (room - 0) qs) ∙ ap (λ (n : ℕ). written n qs) (sub-zero room))
  written_append room (put w x ∷ ps) qs = go (leb w room) (written_append (room - w) ps qs)
    where
      left : (cs : List ℕ) → written (room - w - length cs) qs ≡ written (room - length (bits_of w x ++ cs)) qs
      left cs = ap (λ (n : ℕ). written (room - n - length cs) qs) (sym (length-bits w x)) ∙ room_left room qs (bits_of w x) cs

      go : (t : Bool) → written (room - w) (ps ++ qs) ≡ and_then (written (room - w) ps) (λ bs. written (room - w - length bs) qs)
          → cond t (after (bits_of w x) (written (room - w) (ps ++ qs))) full
          ≡ and_then (cond t (after (bits_of w x) (written (room - w) ps)) full) (λ bs. written (room - length bs) qs)
      go true rest =
          ap (after (bits_of w x)) rest
          ∙ after_then (bits_of w x) (written (room - w) ps) (λ cs. written (room - w - length cs) qs) (λ cs. written (room - length cs) qs) left
      go false rest = refl
  written_append room (within v ∷ ps) qs = go (write room v) (λ bs. written_append (room - length bs) ps qs)
    where
      go : (e : Encoded)
          → ((bs : List ℕ) → written (room - length bs) (ps ++ qs) ≡ and_then (written (room - length bs) ps) (λ cs. written (room - length bs - length cs) qs))
          → and_then e (λ bs. written (room - length bs) (ps ++ qs))
          ≡ and_then (and_then e (λ bs. written (room - length bs) ps)) (λ bs. written (room - length bs) qs)
      go (bits bs) rest =
          ap (after bs) (rest bs)
          ∙ after_then bs (written (room - length bs) ps) (λ cs. written (room - length bs - length cs) qs) (λ cs. written (room - length cs) qs) (room_left room qs bs)
      go nested rest = refl
      go full rest = refl

  -- a number
  number_fits : (room w x : ℕ) → w ≤ room → written room (put w x ∷ []) ≡ bits (bits_of w x)
  unfolding written_by
  number_fits room w x h = rw (le-leb w room h) (ap bits (append-nil (bits_of w x)))

  number_full : (room w x : ℕ) → room < w → written room (put w x ∷ []) ≡ full
  unfolding written_by
  number_full room w x h = rw (lt-leb w room h)

  -- bytes
  bytes_fit : (room : ℕ) (xs : List ℕ) → 8 * length xs ≤ room → written room (byte_pieces xs) ≡ bits (byte_bits xs)
  unfolding written_by
  bytes_fit room [] l = refl
  bytes_fit room (x ∷ xs) l = rw (le-leb 8 room (omega arith)) (ap (after (bits_of 8 x)) (bytes_fit (room - 8) xs (omega arith)))

  bytes_full : (room : ℕ) (xs : List ℕ) → room < 8 * length xs → written room (byte_pieces xs) ≡ full
  unfolding written_by
  bytes_full room [] l = absurd (omega arith)
  bytes_full room (x ∷ xs) l = go (dec_le 8 room) (λ p. bytes_full (room - 8) xs (omega arith))
    where
      go : Dec (8 ≤ room) → (8 ≤ room → written (room - 8) (byte_pieces xs) ≡ full) → cond (leb 8 room) (after (bits_of 8 x) (written (room - 8) (byte_pieces xs))) full ≡ full
      go (yes p) rest = rw (le-leb 8 room p) (ap (after (bits_of 8 x)) (rest p))
      go (no p) rest = rw (lt-leb 8 room (omega arith))

  -- pieces keep to the room where the values within them do
  pub written_keeps : KeepsRoom write → (room : ℕ) (ps : List Piece) (bs : List ℕ) → written room ps ≡ bits bs → length bs ≤ room
  unfolding written_by
  written_keeps keep room [] bs e =
      let none : bs ≡ [] = cc in
      omega (arith, ap length none)
  written_keeps keep room (put w x ∷ ps) bs e = go (dec_le w room) (written_keeps keep (room - w) ps)
    where
      go : Dec (w ≤ room) → ((cs : List ℕ) → written (room - w) ps ≡ bits cs → length cs ≤ room - w) → length bs ≤ room
      go (yes p) rest =
          then_keeps room (bits (bits_of w x)) (λ cs. written (room - w) ps)
          (λ cs q. let same : bits_of w x ≡ cs = cc in omega (arith, ap length same, length-bits w x))
          (λ cs ds q i. let same : bits_of w x ≡ cs = cc in omega (arith, rest ds i, ap length same, length-bits w x))
          bs (rw (le-leb w room p) at e)
      go (no p) rest =
          let none : full ≡ bits bs = rw (lt-leb w room (omega arith)) at e in
          cc
  written_keeps keep room (within v ∷ ps) bs e =
      then_keeps room (write room v) (λ cs. written (room - length cs) ps) (λ cs q. keep.keeps room v cs q)
      (λ cs ds q i. written_keeps keep (room - length cs) ps ds i) bs e

module _ (image : List ℕ) (h : Header) (σ : Store) where
  pub encoded_keeps : (allowance : ℕ) → KeepsRoom (encoded image h σ allowance)
  unfolding encoded
  encoded_keeps zero = record { keeps = λ room v bs e. cc }
  encoded_keeps (suc n) =
      record { keeps = λ room v bs e. written_keeps image h σ (encoded image h σ n) (encoded_keeps n) room (pieces image h σ v) bs e }

-- ---- pieces that hold no value

-- whatever is written within, pieces come to the same n bits wherever those have room
pub record Spells (ps : List Piece) (n : ℕ) (bs : List ℕ) : Type 0 where
  pub long : length bs ≡ n
  pub fits : (image : List ℕ) (h : Header) (σ : Store) (write : ℕ → Value → Encoded) (room : ℕ) → n ≤ room → written_by image h σ write room ps ≡ bits bs
  pub lacks : (image : List ℕ) (h : Header) (σ : Store) (write : ℕ → Value → Encoded) (room : ℕ) → room < n → written_by image h σ write room ps ≡ full

pub number_spells : (w x : ℕ) → Spells (put w x ∷ []) w (bits_of w x)
number_spells w x =
    record {
      long = length-bits w x;
      fits = λ image h σ write room l. number_fits image h σ write room w x l;
      lacks = λ image h σ write room l. number_full image h σ write room w x l;
    }

pub bytes_spell : (xs : List ℕ) (n : ℕ) → length xs ≡ n → Spells (byte_pieces xs) (8 * n) (byte_bits xs)
bytes_spell xs n e =
    record {
      long = length-byte_bits xs ∙ ap (λ (k : ℕ). 8 * k) e;
      fits = λ image h σ write room l. bytes_fit image h σ write room xs (omega arith);
      lacks = λ image h σ write room l. bytes_full image h σ write room xs (omega arith);
    }
