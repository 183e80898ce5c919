-- The pieces of a text. Assumes nothing.
use mathlib.Core.Path.{◌≡◌, refl, sym, ap, ap₂, ◌∙◌, subst}
use mathlib.Core.Bool.{Bool}
use mathlib.Core.List.{List, [], ◌∷◌, ◌++◌, append-nil}
use Prim.Native.Nat.{ℕ, ◌+◌, ◌≤◌}
use native.Mathlib.Omega.{arith}
use lib.ListN.{length, length-append}
use lib.Seq.{slice}
use Rattle.packed.specs.declared.layout.Header.{Header}
use Rattle.packed.specs.Layout.{size_of}
use Rattle.rules.specs.Store.{image_text, text_of, start_of, length_of, part_text}
use Rattle.rules.specs.Output.{Piece, put, byte_pieces, length_and_bytes}
use Rattle.stores.specs.Stores.{store_of, text_of as text_in}
use Rattle.texts.specs.declared.Sources.{Sources}
use Rattle.texts.proofs.Parts.{length_part}
use Rattle.texts.specs.Text.{bytes_of, pool_text, Sourced}
use Rattle.std.specs.Prelude.{Result}
use Rattle.pouring.specs.declared.Spot.{Spot}
use Rattle.pouring.specs.declared.NoPlace.{NoPlace}
use Rattle.pouring.specs.Pouring.{Puts}
use Rattle.stores.specs.declared.run.Run.{Run}

pieces_append : (xs ys : List ℕ) → byte_pieces (xs ++ ys) ≡ byte_pieces xs ++ byte_pieces ys
pieces_append [] ys = refl
pieces_append (x ∷ xs) ys = ap (λ (ps : List Piece). put 8 x ∷ ps) (pieces_append xs ys)

-- a length and two parts
pub text_pieces : (text xs ys : List ℕ) (n : ℕ) → text ≡ xs ++ ys → length xs + length ys ≡ n → put 16 n ∷ (byte_pieces xs ++ byte_pieces ys) ≡ length_and_bytes text
text_pieces text xs ys n e l =
    let long : n ≡ length text = sym l ∙ sym (length-append xs ys) ∙ ap length (sym e) in
    ap₂ (λ (k : ℕ) (ps : List Piece). put 16 k ∷ ps) long (sym (pieces_append xs ys) ∙ ap byte_pieces (sym e))

-- where a text stands: a part of the image, and one of what was built
pub text_puts : (image : List ℕ) (h : Header) (bytes : List ℕ) {made start len p : ℕ} {from : Sources} {xs ys : List ℕ} {writing : Bool} {out out₁ : List ℕ} {r : Result Spot NoPlace} → size_of h ≤ length image → made ≤ length bytes
    → Sourced h made start len from → xs ≡ bytes_of from.image image → ys ≡ bytes_of from.built bytes
    → Puts writing p ((put 16 (from.image.count + from.built.count) ∷ []) ++ (byte_pieces xs ++ byte_pieces ys)) out out₁ r
    → Puts writing p (length_and_bytes (pool_text image h made bytes start len)) out out₁ r
text_puts image h bytes {made} {start} {len} {p} {from} {xs} {ys} {writing} {out} {out₁} {r} whole enough s ex ey puts =
    let first : length xs ≡ from.image.count = ap length ex ∙ length_part from.image.from from.image.count image (omega (arith, s.in_image)) in
    let second : length ys ≡ from.built.count = ap length ey ∙ length_part from.built.from from.built.count bytes (omega (arith, s.in_built)) in
    let is : pool_text image h made bytes start len ≡ xs ++ ys = s.is image bytes whole ∙ sym (ap₂ (λ (l m : List ℕ). l ++ m) ex ey) in
    subst (λ (ps : List Piece). Puts writing p ps out out₁ r)
    (text_pieces (pool_text image h made bytes start len) xs ys (from.image.count + from.built.count) is (omega (arith, first, second)))
    puts

-- the text of a value, and of a key
pub text_is : (image : List ℕ) (h : Header) (run : Run) (words bytes : List ℕ) (start len : ℕ) {writing : Bool} {p kind : ℕ} {out out₁ : List ℕ} {r : Result Spot NoPlace}
    → Puts writing p (put 4 kind ∷ length_and_bytes (pool_text image h (text_in run) bytes start len)) out out₁ r → Puts writing p (put 4 kind ∷ length_and_bytes (text_of image h (store_of run words bytes) start len)) out out₁ r
unfolding pool_text text_of store_of
text_is image h run words bytes start len puts = puts

pub pool_key : (image : List ℕ) (h : Header) (bytes : List ℕ) (key : ℕ) → pool_text image h 0 bytes (start_of key) (length_of key) ≡ part_text image h key
unfolding pool_text part_text
pool_key image h bytes key = ap (slice (start_of key) (start_of key + length_of key)) (append-nil (image_text image h))

-- a key is the text of a literal: no byte of it was built
pub key_puts : (image : List ℕ) (h : Header) (bytes : List ℕ) {writing : Bool} {p start len : ℕ} (key : ℕ) {out out₁ : List ℕ} {r : Result Spot NoPlace} → start ≡ start_of key → len ≡ length_of key
    → Puts writing p (length_and_bytes (pool_text image h 0 bytes start len)) out out₁ r → Puts writing p (length_and_bytes (part_text image h key)) out out₁ r
key_puts image h bytes {writing} {p} {start} {len} key {out} {out₁} {r} s l puts =
    let same : pool_text image h 0 bytes start len ≡ part_text image h key = ap₂ (pool_text image h 0 bytes) s l ∙ pool_key image h bytes key in
    subst (λ (text : List ℕ). Puts writing p (length_and_bytes text) out out₁ r) same puts
