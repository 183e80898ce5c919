-- What waits for an operand: decl, set, assign, and break with a value.
use Rattle.std.specs.Prelude.{ℕ, List, [], ◌∷◌}
use Rattle.packed.specs.declared.layout.Node.{Node}
use Rattle.rules.specs.Machine.{Kind, scope, binary, decl, set, assign, template, name, read, value, branches, loop, break, vec, tuple, object, call, other}
use Rattle.rules.specs.Machine.{Frame, decl_of, set_of, assign_of, break_of}

pub data Single : ℕ → Type 0 where
  declares : Single 3
  sets : Single 4
  assigns : Single 5
  breaks : Single 12

abbrev pub waiting : Kind → ℕ → List Frame
waiting scope n = []
waiting binary n = []
waiting decl n = decl_of n ∷ []
waiting set n = set_of n ∷ []
waiting assign n = assign_of n ∷ []
waiting template n = []
waiting name n = []
waiting read n = []
waiting value n = []
waiting branches n = []
waiting loop n = []
waiting break n = break_of n ∷ []
waiting vec n = []
waiting tuple n = []
waiting object n = []
waiting call n = []
waiting other n = []

abbrev pub operand_of : Kind → Node → ℕ
operand_of scope d = 0
operand_of binary d = 0
operand_of decl d = d.a
operand_of set d = d.b
operand_of assign d = d.b
operand_of template d = 0
operand_of name d = 0
operand_of read d = 0
operand_of value d = 0
operand_of branches d = 0
operand_of loop d = 0
operand_of break d = d.a
operand_of vec d = 0
operand_of tuple d = 0
operand_of object d = 0
operand_of call d = 0
operand_of other d = 0
