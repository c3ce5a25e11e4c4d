use Rattle.std.proofs.Common.{◌≡◌, Ok, refl, subst, rules}
use Rattle.sealing.specs.Sealer.{Begun}
use Rattle.rehearsal.proofs.SealRuns.{answered, law_holds}
use Rattle.rehearsal.proofs.seal_side.drive_sealer.Goals as goal

pub returns-clause-rules : goal.returns-clause-rules
returns-clause-rules g c =
    let was : c.begin.result ≡ Ok c.in_ok-sealer.sealer = search rules in
    let b = subst (Begun c.args.h c.args.n) was c.begin.ensures.begun in
    let d = c.drive-w.ensures in
    answered _ _ _ _ _ _ _ _ _ _ _ b.2 b.0 b.1 d.run d.behind d.within

pub returns-clause-law : goal.returns-clause-law
returns-clause-law g c =
    let was : c.begin.result ≡ Ok c.in_ok-sealer.sealer = search rules in
    let b = subst (Begun c.args.h c.args.n) was c.begin.ensures.begun in
    let d = c.drive-w.ensures in
    λ u ec closes. law_holds _ _ _ _ _ _ _ _ _ _ _ b.2 b.0 b.1 d.run d.behind d.within u c.args.h refl c.drive-w.auto.answers ec closes (b.3 u closes)
