-- Digits are ASCII, and so UTF-8.
use Rattle.std.proofs.Common.{ℕ, ◌<◌, List, arith, length, get_or}
use Rattle.std.proofs.lemmas.Grind.{common_steps}
use Rattle.std.specs.Int.{IsInRange}
use Rattle.std.specs.Str.Parse.{AllDigits}
use Rattle.std.proofs.lemmas.Str.{IsUtf8-from_ascii}
use Rattle.std.proofs.lemmas.Str.Parse.{digit_at}
use Rattle.reading.proofs.number.Goals as goal

below : (x : ℕ) → IsInRange 48 57 x → x < 128
below x digit = omega arith

digits_are_ascii : (ds : List ℕ) → AllDigits 10 ds → (i : ℕ) → get_or ds i 0 < 128
digits_are_ascii ds all i =
    let inside : i < length ds → get_or ds i 0 < 128 = λ (h : i < length ds). below (get_or ds i 0) (digit_at ds i all h) in
    grind (arith, common_steps, inside)

pub returns-in_default : goal.returns-in_default
returns-in_default c n = c.in_default.ensures.cases.0 (IsUtf8-from_ascii c.args.word.now (digits_are_ascii c.args.word.now n.0.1))
