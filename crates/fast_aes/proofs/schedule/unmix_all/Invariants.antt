use Rattle.fast_aes.proofs.Keying.{Unmixing}
use Rattle.fast_aes.proofs.schedule.unmix_all.Given as goal

abbrev pub invariant-loop-i : goal.invariant-loop-i
invariant-loop-i l = Unmixing l.keys l.inv_key-items l.i
