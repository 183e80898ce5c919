-- What loading answers, as facts: one clause for each line of 01's order. `proofs/Exact.antt` shows that `load_of` gives exactly this.
use Rattle.std.specs.Prelude.{ℕ, ◌≤◌, ◌<◌, ◌≡◌, List, length, Result, Ok, Err}
use Rattle.packed.specs.declared.layout.Header.{Header}
use Rattle.image.specs.declared.LoadError.{LoadError}
use Rattle.image.specs.declared.LoadError.TheVariants.{BadLength, BadHeader, BadRecord, BadTree}
use Rattle.records.specs.First.{First, Never}
use Rattle.packed.specs.Layout.{header_of, size_of}
use Rattle.records.specs.Records.{record_bad, record_offset, records_in}
use Rattle.tree.specs.Tree.{at_fault}

-- the header stands whole, of edition 1, in an image as long as it says, and its root is a node
pub record HeaderRight (image : List ℕ) (h : Header) : Type 0 where
  pub is : h ≡ header_of image
  pub whole : 8 ≤ length image
  pub edition : h.edition ≡ 1
  pub exact : length image ≡ size_of h
  pub root_node : (1 ≤ h.root) × (h.root ≤ h.nodes)

pub data Answers (image : List ℕ) : Result Header LoadError → Type 0 where
  short : length image < 8 → Answers image (Err BadLength)
  other_edition : 8 ≤ length image → ((header_of image).edition ≡ 1 → ⊥) → Answers image (Err BadHeader)
  other_length : 8 ≤ length image → (header_of image).edition ≡ 1 → (length image ≡ size_of (header_of image) → ⊥) → Answers image (Err BadLength)
  no_root : 8 ≤ length image → (header_of image).edition ≡ 1 → length image ≡ size_of (header_of image)
      → ((1 ≤ (header_of image).root) × ((header_of image).root ≤ (header_of image).nodes) → ⊥) → Answers image (Err BadHeader)
  bad_record : (h : Header) (r : ℕ) → HeaderRight image h → First (record_bad image h) 0 (records_in h) r → Answers image (Err (BadRecord (record_offset h r)))
  bad_tree : (h : Header) (n : ℕ) → HeaderRight image h → Never (record_bad image h) 0 (records_in h) → First (at_fault image h) 1 h.nodes n → Answers image (Err (BadTree n))
  loads : (h : Header) → HeaderRight image h → Never (record_bad image h) 0 (records_in h) → Never (at_fault image h) 1 h.nodes → Answers image (Ok h)
