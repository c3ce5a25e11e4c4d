use mathlib.Core.Path.{◌≡◌}
use Prim.Native.Nat.{◌<◌}
use lib.Bits.{bit_xor}
use Rattle.gf256.specs.Field.{gmul}
use Rattle.gf256.proofs.mul.Given as goal

abbrev pub invariant-loop-m : goal.invariant-loop-m
invariant-loop-m l = (l.m < 256) × (bit_xor l.sum (gmul l.x l.m) ≡ gmul l.initial.x l.initial.m)

abbrev pub decreases-loop-m : goal.decreases-loop-m
decreases-loop-m l = l.m
