use mathlib.Core.Path.{◌≡◌, sym, ◌∙◌, ap}
use native.Mathlib.Omega.{arith}
use borrow.Author.Rules.{rules}
use lib.Bits.{bit_xor, xor_zero_l, xor_zero_r}
use Rattle.gf256.specs.Field.{gmul}
use Rattle.gf256.proofs.Linear.{gmul_odd, gmul_even, gmul_zero}
use Rattle.gf256.proofs.mul.Goals as goal
use Rattle.gf256.proofs.mul.Goals.{then-m-eq1, else-m-eq1}

pub loop-m-init : goal.loop-m-init
loop-m-init c = (search rules, xor_zero_l (gmul c.args.a c.args.b))

pub loop-m-preserved : goal.loop-m-preserved
loop-m-preserved c =
    let l = c.loop-m in
    let d = c.double-x.ensures in (
      omega (arith, l.invariant.0),
      elim c.if-m-eq1.branch [
        | then-m-eq1 w ↦ gmul_odd l.sum l.x l.m _ _ l.invariant.0 d l.invariant.1 _ w.if-m-eq1.true w.sum-is
        | else-m-eq1 w ↦ gmul_even l.sum l.x l.m _ _ l.invariant.0 d l.invariant.1 _ (omega (arith, w.if-m-eq1.false)) w.sum-is
      ],
    )

pub returns : goal.returns
returns c =
    let l = c.loop-m in
    let e : l.m ≡ 0 = omega arith in
    sym (ap (λ m. bit_xor l.sum (gmul l.x m)) e ∙ ap (bit_xor l.sum) (gmul_zero l.x) ∙ xor_zero_r l.sum) ∙ l.invariant.1
