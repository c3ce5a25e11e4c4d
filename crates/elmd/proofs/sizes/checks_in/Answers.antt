use Rattle.std.proofs.Common.{◌≡◌, ℕ, pred, ◌/◌, sym, ap, ◌∙◌, arith}
use native.Mathlib.Nat.{div-zero}
use Rattle.elmd.proofs.sizes.checks_in.Goals as goal

pub returns-then-t-eq0 : goal.returns-then-t-eq0
returns-then-t-eq0 c = sym (ap (λ (n : ℕ). pred c.args.l / n) c.if-t-eq0.true ∙ div-zero (pred c.args.l))

pub returns-else-t-eq0 : goal.returns-else-t-eq0
returns-else-t-eq0 c = ap (λ (n : ℕ). n / c.args.t) (let e : c.saturating_sub.result ≡ pred c.args.l = omega arith in e)
