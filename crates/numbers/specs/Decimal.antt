-- An integer in decimal, as bytes, and bytes put at a place of a store. 48 is the byte of `0`, and 45 that of `-`.
use Rattle.std.specs.Prelude.{Bool, cond, Option, Some, None, List, [], ◌∷◌, ◌++◌, ℕ, zero, suc, ◌+◌, ◌/◌, ◌%◌, ltb, leb, ℤ, pos, negsuc, length, take, drop}

-- the digits of n, by no more than so many divisions
unfoldable pub digits : ℕ → ℕ → List ℕ
digits zero n = (48 + n) ∷ []
digits (suc divisions) n = cond (ltb n 10) ((48 + n) ∷ []) (digits divisions (n / 10) ++ ((48 + n % 10) ∷ []))

-- n divisions are enough for n
unfoldable pub digits_of : ℕ → List ℕ
unfolding digits
digits_of n = digits n n

-- `negsuc n` is -(n + 1)
abbrev pub decimal_of : ℤ → List ℕ
decimal_of (pos n) = digits_of n
decimal_of (negsuc n) = 45 ∷ digits_of (suc n)

abbrev pub has_room : List ℕ → ℕ → List ℕ → Bool
has_room store at text = leb (at + length text) (length store)

-- the store with a text put at a place, if there is room for all of it
unfoldable pub put_of : List ℕ → ℕ → List ℕ → List ℕ
put_of store at text = cond (has_room store at text) (take at store ++ text ++ drop (at + length text) store) store

unfoldable pub end_of : List ℕ → ℕ → List ℕ → Option ℕ
end_of store at text = cond (has_room store at text) (Some (at + length text)) None
