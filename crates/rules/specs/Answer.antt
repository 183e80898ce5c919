-- 01's numbers, and what each answer says.
use Rattle.std.specs.Prelude.{ℕ}
use Rattle.numbers.specs.Ints.{number_of as arith_number}
use Rattle.image.specs.Load.{error_number, error_place}
use Rattle.rules.specs.declared.Refusal.{Refusal}
use Rattle.rules.specs.declared.Refusal.TheVariants.{Depth, Cells, TextBytes, Bindings, Pending, NotConst, BreakOutside, BreakWithValue, NotBool, Arithmetic, Operands, MissingName, MissingField, MissingIndex, ExpectedType, ArgumentCount, FloatInTemplate, Nesting, Room}
use Rattle.rules.specs.declared.Answer.{Answer}
use Rattle.rules.specs.declared.Answer.TheVariants.{Value, Refused, Spent, NotLoaded, StoreTooShort}

abbrev pub refusal_number : Refusal → ℕ
refusal_number Depth = 7
refusal_number Cells = 8
refusal_number TextBytes = 9
refusal_number Bindings = 10
refusal_number Pending = 11
refusal_number NotConst = 12
refusal_number BreakOutside = 13
refusal_number BreakWithValue = 14
refusal_number NotBool = 15
refusal_number (Arithmetic why) = arith_number why
refusal_number Operands = 19
refusal_number MissingName = 20
refusal_number MissingField = 21
refusal_number MissingIndex = 22
refusal_number ExpectedType = 23
refusal_number ArgumentCount = 24
refusal_number FloatInTemplate = 25
refusal_number Nesting = 26
refusal_number Room = 27

-- the refusal's number, 0 for a value
abbrev pub number_of : Answer → ℕ
number_of (Value length steps) = 0
number_of (Refused why place steps) = refusal_number why
number_of (Spent place steps) = 6
number_of (NotLoaded error) = error_number error
number_of StoreTooShort = 5

abbrev pub place_of : Answer → ℕ
place_of (Value length steps) = 0
place_of (Refused why place steps) = place
place_of (Spent place steps) = place
place_of (NotLoaded error) = error_place error
place_of StoreTooShort = 0

-- "Refusals 1 to 5 report 0 steps"
abbrev pub steps_of : Answer → ℕ
steps_of (Value length steps) = steps
steps_of (Refused why place steps) = steps
steps_of (Spent place steps) = steps
steps_of (NotLoaded error) = 0
steps_of StoreTooShort = 0
