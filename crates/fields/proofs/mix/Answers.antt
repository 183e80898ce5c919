-- The three parts of the byte are apart (`mixes`).
use Rattle.std.proofs.Common.{◌+◌, ◌*◌, ◌/◌, ◌%◌, ◌^◌, ℕ, ap, ap₂, ◌∙◌}
use Rattle.fields.proofs.Putting.{mixes}
use Rattle.fields.proofs.mix.Goals as goal

pub returns : goal.returns
returns c =
    let a = c.args in
    let w = c.from-x.ensures in
    mixes a.old a.s a.t a.v _ c.requires.1
    (ap₂ (λ (m n : ℕ). m + n)
    (ap₂ (λ (m n : ℕ). m + n)
    (c.up.ensures ∙ ap (λ (n : ℕ). n * 2 ^ (a.s + a.t)) (c.down.ensures ∙ ap (λ (n : ℕ). n / 2 ^ (a.s + a.t)) w))
    c.up-2.ensures)
    (c.low.ensures ∙ ap (λ (n : ℕ). n % 2 ^ a.s) w))
