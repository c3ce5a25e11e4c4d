use Rattle.std.proofs.Common.{refl, ap, ◌∙◌}
use Rattle.block.specs.Value.{value}
use Rattle.sealing.proofs.Parts.{first_sealing}
use Rattle.sealing.proofs.begun.Sealer.begin.Goals as goal

pub returns-clause-begun : goal.returns-clause-begun
returns-clause-begun c =
    let parts = c.into_parts.ensures in
    let settings = ap (λ p. p.0) parts in
    (refl, refl, settings, λ u h. first_sealing u c.args.h _ h settings refl (c.new.ensures.starts u _ (ap (λ p. value p.1) parts ∙ h.based) (ap (λ p. value p.2) parts ∙ h.started)))
