use Rattle.std.proofs.Common.{arith, rules}
use Rattle.std.proofs.lemmas.Slice.{overwrites}
use Rattle.block.proofs.raw.Block.store.Goals as goal

pub returns-then-n-at-ge16 : goal.returns-then-n-at-ge16
returns-then-n-at-ge16 c = record { front = λ h. search (rules, overwrites); back = λ h. search (rules, overwrites); none = λ h. absurd (omega arith) }
