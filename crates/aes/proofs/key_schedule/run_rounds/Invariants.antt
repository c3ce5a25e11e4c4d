use Rattle.std.proofs.Common.{◌≡◌, take}
use Rattle.std.specs.List.{fold}
use Rattle.aes.specs.Fips197.{round}
use Rattle.aes.proofs.key_schedule.run_rounds.Given as goal

abbrev pub invariant-loop-k : goal.invariant-loop-k
invariant-loop-k l = l.s ≡ fold (λ s k. round k s) l.initial.s (take l.k-index l.keys)
