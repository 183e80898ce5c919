-- Text of the image and of the byte store: what the functions of text.rt give and leave.
use Rattle.std.specs.Prelude.{ℕ, ◌+◌, ◌≤◌, ◌≡◌, List, ◌++◌, length, take}
use Rattle.std.proofs.Math.Seq.{slice}
use Rattle.packed.specs.declared.layout.Header.{Header}
use Rattle.packed.specs.Layout.{size_of}
use Rattle.rules.specs.Store.{Store, image_text, text_of}
use Rattle.rules.specs.Building.{Made, built_text}
use Rattle.texts.specs.declared.Span.{Span}
use Rattle.texts.specs.declared.Sources.{Sources}

-- the bytes of a span
abbrev pub bytes_of : Span → List ℕ → List ℕ
bytes_of r l = slice r.from (r.from + r.count) l

-- in any list, a text is the bytes of a span: no more than `len`, and all among the first `most`
pub record Spans (most len : ℕ) (text : List ℕ → List ℕ) (r : Span) : Type 0 where
  pub within : r.from + r.count ≤ most
  pub short : r.count ≤ len
  pub is : (l : List ℕ) → text l ≡ bytes_of r l

-- a part of the first `total`
abbrev pub first_part : ℕ → ℕ → ℕ → List ℕ → List ℕ
first_part total start len l = slice start (start + len) (take total l)

-- a part of the image's text
abbrev pub image_part : Header → ℕ → ℕ → List ℕ → List ℕ
image_part h start len image = slice start (start + len) (image_text image h)

-- a part of the image's text and, after it, the first `made` bytes
unfoldable pub pool_text : List ℕ → Header → ℕ → List ℕ → ℕ → ℕ → List ℕ
pool_text image h made bytes start len = slice start (start + len) (image_text image h ++ take made bytes)

-- where that part stands in any image and any bytes: no more than `len`, all within the image and among the first `made`
pub record Sourced (h : Header) (made start len : ℕ) (r : Sources) : Type 0 where
  pub in_image : r.image.from + r.image.count ≤ size_of h
  pub in_built : r.built.from + r.built.count ≤ made
  pub short : r.image.count + r.built.count ≤ len
  pub is : (image bytes : List ℕ) → size_of h ≤ length image
      → pool_text image h made bytes start len ≡ bytes_of r.image image ++ bytes_of r.built bytes

-- "both text, + joins"
abbrev pub joined : List ℕ → Header → ℕ → ℕ → ℕ → ℕ → ℕ → Store → Made
joined image h n start len start' len' σ = built_text image h n σ (text_of image h σ start len ++ text_of image h σ start' len')
