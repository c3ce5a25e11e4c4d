use Rattle.std.proofs.Common.{◌≡◌, drop, vec_items}
use Rattle.console.specs.Hex.{from_hex}
use Rattle.console.proofs.Hexes.{behind, of_pairs}
use Rattle.console.proofs.hex.from_hex.Given as goal

abbrev pub invariant-loop-high : goal.invariant-loop-high
invariant-loop-high l = behind (vec_items l.bytes) (of_pairs (drop l.high-index l.pairs)) ≡ from_hex l.text
