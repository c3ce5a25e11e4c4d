use Rattle.std.proofs.Common.{◌≡◌, Bool, true, false, not, refl, sym, ap, ◌∙◌}
use Rattle.std.proofs.lemmas.Bool.{eq-eqb, eqb-true, true≢false}
use Rattle.block.specs.Value.{value}
use Rattle.opening.proofs.Readings.{read_check, reads_past}
use Rattle.opening.proofs.state.Reading.pass_check.Goals as goal

pub returns-then-ne-clause-passes : goal.returns-then-ne-clause-passes
returns-then-ne-clause-passes g c = λ u st i j ec ei ev r chk.
    let d = c.decrypt.ensures.value in
    let k = read_check u st i j c.args.self r ei (value c.xor.result) (value c.args.check) (cc) ev in
    true≢false (sym c.if-ne.true ∙ c.ne.ensures ∙ ap not (eq-eqb (value c.xor.result) (value c.args.check) (k.1 chk)))

not_false : (b : Bool) → not b ≡ false → b ≡ true
not_false true e = refl
not_false false e = sym e

pub returns-clause-passes : goal.returns-clause-passes
returns-clause-passes g c = λ u st i j ec ei ev r.
    let d = c.decrypt.ensures.value in
    let k = read_check u st i j c.args.self r ei (value c.xor.result) (value c.args.check) (cc) ev in
    let e = eqb-true (value c.xor.result) (value c.args.check) (not_false _ (sym c.ne.ensures ∙ c.if-ne.false)) in
    (reads_past u st i j c.args.self r _ refl refl c.double.ensures refl refl, k.0 e)
