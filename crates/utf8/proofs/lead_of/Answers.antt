-- Each arm by one test of its bytes. The arms of single bytes come first.
use Rattle.std.proofs.Common.{◌∙◌, refl, arith}
use Rattle.utf8.proofs.Leads.{tells, lead_in}
use Rattle.utf8.proofs.lead_of.Goals as goal

pub returns-in-224 : goal.returns-in-224
unfolding tells
returns-in-224 c = c.some_lead.ensures ∙ lead_in 0xE0 0xE0 refl c.args.first (omega arith)

pub returns-in-237 : goal.returns-in-237
unfolding tells
returns-in-237 c = c.some_lead-in-237.ensures ∙ lead_in 0xED 0xED refl c.args.first (omega arith)

pub returns-in-240 : goal.returns-in-240
unfolding tells
returns-in-240 c = c.some_lead-in-240.ensures ∙ lead_in 0xF0 0xF0 refl c.args.first (omega arith)

pub returns-in-244 : goal.returns-in-244
unfolding tells
returns-in-244 c = c.some_lead-in-244.ensures ∙ lead_in 0xF4 0xF4 refl c.args.first (omega arith)

pub returns-in-0-to-127 : goal.returns-in-0-to-127
unfolding tells
returns-in-0-to-127 c = c.some_lead-in-0-to-127.ensures ∙ lead_in 0x00 0x7F refl c.args.first (omega arith)

pub returns-in-194-to-223 : goal.returns-in-194-to-223
unfolding tells
returns-in-194-to-223 c = c.some_lead-in-194-to-223.ensures ∙ lead_in 0xC2 0xDF refl c.args.first (omega arith)

pub returns-in-225-to-236 : goal.returns-in-225-to-236
unfolding tells
returns-in-225-to-236 c = c.some_lead-in-225-to-236.ensures ∙ lead_in 0xE1 0xEC refl c.args.first (omega arith)

pub returns-in-238-to-239 : goal.returns-in-238-to-239
unfolding tells
returns-in-238-to-239 c = c.some_lead-in-238-to-239.ensures ∙ lead_in 0xEE 0xEF refl c.args.first (omega arith)

pub returns-in-241-to-243 : goal.returns-in-241-to-243
unfolding tells
returns-in-241-to-243 c = c.some_lead-in-241-to-243.ensures ∙ lead_in 0xF1 0xF3 refl c.args.first (omega arith)

pub returns-in_default : goal.returns-in_default
unfolding tells
returns-in_default c = lead_in 0x80 0xC1 refl c.args.first (omega arith)

pub returns-in_default-2 : goal.returns-in_default-2
unfolding tells
returns-in_default-2 c = lead_in 0xF5 0xFF refl c.args.first (omega arith)
