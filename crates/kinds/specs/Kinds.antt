-- 01's table of kinds.
use Rattle.std.specs.Prelude.{ℕ, Bool, true, false, ◌&&◌, ◌||◌, cond, List, [], ◌∷◌, leb, eqb, get_or}
use Rattle.kinds.specs.declared.Class.{Class}
use Rattle.kinds.specs.declared.Class.TheVariants.{Expression, Component, Arm, Entry, Scope, Condition, Target}
use Rattle.kinds.specs.declared.KindRow.{KindRow}
use Rattle.kinds.specs.declared.Role.{Role}
use Rattle.kinds.specs.declared.Role.TheVariants.{Unlisted, Number, Literal, Text, Function, Node}

abbrev pub is_within : ℕ → ℕ → ℕ → Bool
is_within lo hi k = leb lo k && leb k hi

-- the kinds of each class: "kinds 1 to 16 are expressions"
abbrev pub is_of : Class → ℕ → Bool
is_of Expression k = is_within 1 16 k
is_of Component k = eqb k 17 || is_within 1 16 k
is_of Arm k = eqb k 18
is_of Entry k = eqb k 19
is_of Scope k = eqb k 1
is_of Condition k = eqb k 20 || is_within 1 16 k
is_of Target k = is_within 21 23 k

-- a node of a class; or 0; the head of a chain of such nodes, or 0; a chain that is not empty
abbrev pub one : Class → Role
one c = Node true false c

abbrev pub maybe : Class → Role
maybe c = Node false false c

abbrev pub chain : Class → Role
chain c = Node false true c

abbrev pub chain1 : Class → Role
chain1 c = Node true true c

-- a line of the table: how many ops the kind has, and what tag, a and b hold
abbrev pub row : ℕ → Role → Role → Role → KindRow
row n t a b = record { ops = n; tag = t; a = a; b = b }

-- no kind: no op is one of its
abbrev pub none : KindRow
none = row 0 Unlisted Unlisted Unlisted

unfoldable pub table : List KindRow
table =
    none
    ∷ row 1 Unlisted (chain Expression) (maybe Expression)  -- 1 scope: a instruction chain or 0, b last or 0
    ∷ row 11 Unlisted (one Expression) (one Expression)  -- 2 binary: op 0–10; a, b
    ∷ row 1 Number (one Expression) Unlisted  -- 3 decl: tag name, a value
    ∷ row 1 Unlisted (one Target) (one Expression)  -- 4 set: a target, b value
    ∷ row 6 Unlisted (one Target) (one Expression)  -- 5 assign: the same; op 0–5
    ∷ row 1 Unlisted (chain Component) Unlisted  -- 6 template: a chain of 17 or expressions, or 0
    ∷ row 1 Number Unlisted Unlisted  -- 7 name: tag
    ∷ row 1 Unlisted (one Target) Unlisted  -- 8 read: a target
    ∷ row 1 Unlisted Literal Unlisted  -- 9 value: a literal
    ∷ row 1 Unlisted (chain Arm) (maybe Scope)  -- 10 branches: a chain of 18 or 0, b scope or 0
    ∷ row 1 Number (maybe Condition) (one Scope)  -- 11 loop: tag label (0 none), a condition or 0, b scope
    ∷ row 1 Number (maybe Expression) Unlisted  -- 12 break: tag label, a value or 0
    ∷ row 1 Unlisted (chain Expression) Unlisted  -- 13 vec: a chain; a vec's chain may be 0
    ∷ row 1 Unlisted (chain1 Expression) Unlisted  -- 14 tuple: a chain; tuple not empty
    ∷ row 1 Unlisted (chain Entry) Unlisted  -- 15 object: a chain of 19 or 0
    ∷ row 1 Function (chain Expression) Unlisted  -- 16 call: tag function, a chain of arguments or 0
    ∷ row 1 Unlisted Text Unlisted  -- 17 text: a literal of kind 6
    ∷ row 1 Unlisted (one Condition) (one Scope)  -- 18 arm: a condition, b scope
    ∷ row 1 Unlisted Text (one Expression)  -- 19 entry: a literal of kind 6, b value
    ∷ row 2 Number (one Expression) Unlisted  -- 20 let condition: op 0 ignore (tag 0), 1 bind tag; a value
    ∷ row 1 Number Unlisted Unlisted  -- 21 target: tag name
    ∷ row 1 Unlisted (one Target) Text  -- 22 target: a target, b literal of kind 6
    ∷ row 1 Unlisted (one Target) Number  -- 23 target: a target, b index
    ∷ []

unfoldable pub row_of : ℕ → KindRow
row_of kind = get_or table kind none

-- "op 0 ignore (tag 0)": a let condition that binds nothing has no tag
unfoldable pub tag_role : ℕ → ℕ → Role
tag_role kind op = cond (eqb kind 20 && eqb op 0) Unlisted (row_of kind).tag
