use Rattle.std.specs.Prelude.{ℕ, ◌+◌, ◌*◌, ◌^◌, ◌<◌}
use Rattle.std.proofs.Common.{arith}
use Rattle.block.specs.declared.raw.Block.{Block}

unfoldable pub value : Block → ℕ
value b = b.hi * 2 ^ 64 + b.lo

pub value_lt : (b : Block) → value b < 2 ^ 128
unfolding value
value_lt b = let h = b.ok.0 in let l = b.ok.1 in omega arith
