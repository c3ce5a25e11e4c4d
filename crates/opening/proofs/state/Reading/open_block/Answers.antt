use Rattle.std.proofs.Common.{◌≡◌, ℕ, suc, refl, ap}
use Rattle.block.specs.Value.{value}
use Rattle.elmd.specs.Opening.{y_r, w_r, p_r}
use Rattle.opening.proofs.Readings.{read_y, read_x, read_w, read_p, reads_on}
use Rattle.opening.proofs.state.Reading.open_block.Goals as goal

pub returns-clause-steps : goal.returns-clause-steps
returns-clause-steps g c = λ u st i ec ev r.
    let s = c.args.self in
    let y = read_y u st i s r (value c.args.block) ev in
    let ys : value c.encrypt-y.result ≡ y_r u st (suc i) = cc in
    let pair0 = ap (λ (q : ℕ × ℕ). q.0) c.unmixed.ensures in
    let pair1 = ap (λ (q : ℕ × ℕ). q.1) c.unmixed.ensures in
    let x = read_x u st i s r in
    let w = read_w u st i s r in
    let p = read_p u st i s r in
    let ws : value c.unmixed.result.1 ≡ w_r u st (suc i) = cc in
    let ps : value c.xor-b.result ≡ p_r u st (suc i) = cc in
    (reads_on u st i s r _ ws c.double.ensures c.double-2.ensures (cc) refl, ps)
