-- What the first byte of a character tells of the others: the promise of `lead_of`.
use Rattle.std.specs.Prelude.{ℕ, cond, leb, length, get_or, Option, Some, None}
use Rattle.utf8.specs.Utf8.{table, row_of}
use Rattle.utf8.specs.declared.Lead.{Lead}

-- a first byte of a character of so many bytes, and the range of the second one
abbrev pub some_lead : ℕ → ℕ → ℕ → Option Lead
some_lead len low high = Some (record { len = len; low = low; high = high })

-- how many bytes its row has, and the range of the second one, 0 to 0 where there is none; nothing where no row has it
unfoldable pub lead_of : ℕ → Option Lead
lead_of first =
    let row = row_of table first in
    cond (leb 1 (length row)) (some_lead (length row) (get_or row 1 (0, 0)).0 (get_or row 1 (0, 0)).1) None
