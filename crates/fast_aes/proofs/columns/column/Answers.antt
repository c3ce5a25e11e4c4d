use Rattle.std.proofs.Common.{rules}
use Rattle.fast_aes.proofs.Gathering.{entry_bytes, gathered_is}
use Rattle.fast_aes.proofs.columns.column.Goals as goal

pub returns : goal.returns
returns g c =
    let a = c.args in
    let m = g.D.Direction.matrix in
    let f = g.D.Direction.boxed in
    let small = g.met.D.Direction.boxed_lt in
    gathered_is a.k c.at-4.result c.at-3.result c.at-2.result c.at.result m (f a.p) (f a.q) (f a.r) (f a.s)
    (entry_bytes m 0 (f a.p) _ (small a.p (search rules)) c.at-4.ensures)
    (entry_bytes m 1 (f a.q) _ (small a.q (search rules)) c.at-3.ensures)
    (entry_bytes m 2 (f a.r) _ (small a.r (search rules)) c.at-2.ensures)
    (entry_bytes m 3 (f a.s) _ (small a.s (search rules)) c.at.ensures)
