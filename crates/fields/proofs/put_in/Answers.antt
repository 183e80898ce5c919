-- A byte mixed in its place is a field put (`put_byte`).
use Rattle.fields.proofs.Putting.{put_byte}
use Rattle.fields.proofs.put_in.Goals as goal

pub returns : goal.returns
returns c =
    let a = c.args in
    put_byte a.out.now a.k a.s a.t a.v c.mix.result c.requires.0 c.requires.1 c.mix.ensures
