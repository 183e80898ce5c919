-- Which images load, and the number and place of the refusal of every other one (01, 'Numbers').
use Rattle.std.specs.Prelude.{ℕ, cond, not, List, ltb, eqb, length, Option, Some, None, Result, Ok, Err}
use Rattle.packed.specs.declared.layout.Header.{Header}
use Rattle.image.specs.declared.LoadError.{LoadError}
use Rattle.image.specs.declared.LoadError.TheVariants.{BadLength, BadHeader, BadRecord, BadTree}
use Rattle.packed.specs.Layout.{header_of, size_of}
use Rattle.records.specs.Records.{is_node, bad_record}
use Rattle.tree.specs.Tree.{lowest_fault}

-- the tree is judged once every record is good
abbrev pub by_tree : Header → Option ℕ → Result Header LoadError
by_tree h (Some n) = Err (BadTree n)
by_tree h None = Ok h

abbrev pub by_records : List ℕ → Header → Option ℕ → Result Header LoadError
by_records image h (Some place) = Err (BadRecord place)
by_records image h None = by_tree h (lowest_fault image h)

-- "1 under 8 bytes; 2 edition; 1 exact length; 2 root 0 or above N; 3; 4"
unfoldable pub judged : List ℕ → Header → Result Header LoadError
judged image h =
    cond (not (eqb h.edition 1)) (Err BadHeader)
    (cond (not (eqb (length image) (size_of h))) (Err BadLength)
    (cond (not (is_node h.nodes h.root)) (Err BadHeader)
    (by_records image h (bad_record image h))))

unfoldable pub load_of : List ℕ → Result Header LoadError
load_of image = cond (ltb (length image) 8) (Err BadLength) (judged image (header_of image))

-- 01's number and place for each refusal
abbrev pub error_number : LoadError → ℕ
error_number BadLength = 1
error_number BadHeader = 2
error_number (BadRecord place) = 3
error_number (BadTree n) = 4

abbrev pub error_place : LoadError → ℕ
error_place BadLength = 0
error_place BadHeader = 0
error_place (BadRecord place) = place
error_place (BadTree n) = n

-- an image that loads has neither
abbrev pub number_of : Result Header LoadError → ℕ
number_of (Ok h) = 0
number_of (Err e) = error_number e

abbrev pub place_of : Result Header LoadError → ℕ
place_of (Ok h) = 0
place_of (Err e) = error_place e
