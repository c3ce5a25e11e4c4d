use Rattle.aes.proofs.Turns.{Keys}
use Rattle.aes.proofs.expansion.expand.Given as goal

abbrev pub invariant-loop-i : goal.invariant-loop-i
invariant-loop-i g l = Keys g.E.Expansion.bytes (g.E.Expansion.bytes l.fn.key) l.next-items l.k l.i
