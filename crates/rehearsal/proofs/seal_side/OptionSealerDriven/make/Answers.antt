use Rattle.std.proofs.Common.{◌≡◌, ℕ, List, length, take, Some, Option, sym, subst, rules}
use Rattle.sealing.specs.declared.begun.Sealer.{Sealer}
use Rattle.rehearsal.specs.SealLaw.{SealerDoes}
use Rattle.rehearsal.proofs.seal_side.OptionSealerDriven.make.Goals as goal

pub returns-in-Some-clause-does : goal.returns-in-Some-clause-does
returns-in-Some-clause-does g c =
    let was : Some c.in-Some.sealer ≡ c.args.self.now = search rules in
    let left : c.one-held.result.0 ≡ c.replace.new.dest = search rules in
    let m = g.C.Cipher.meaning c.args.c.now in
    let written : List ℕ = take c.one-held.result.1 c.one-held.new.out in
    subst (λ (s : Option Sealer). SealerDoes m s c.args.call.now (length c.args.out.now) c.replace.new.dest written c.one-held.result.2) was
    (subst (λ (s : Option Sealer). SealerDoes m (Some c.in-Some.sealer) c.args.call.now (length c.args.out.now) s written c.one-held.result.2) left c.one-held.ensures.does)
