-- A byte has two digits (`hex_one`).
use borrow.Author.Rules.{rules}
use Rattle.printing.proofs.Pages.{hex_one}
use Rattle.printing.proofs.Page.hex_byte.Goals as goal

pub returns-clause-value : goal.returns-clause-value
returns-clause-value c = search (rules, hex_one)
