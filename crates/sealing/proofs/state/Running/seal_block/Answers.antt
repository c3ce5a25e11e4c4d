use Rattle.std.proofs.Common.{◌≡◌, suc, ◌+◌, ◌/◌, ◌≤◌, length, drop, sym, refl, ap, ◌∙◌, arith, rules}
use Rattle.std.proofs.lemmas.Bool.{ne_eqb, eq-eqb}
use Rattle.std.proofs.lemmas.List.{drop-drop}
use Rattle.block.specs.Value.{value}
use Rattle.block.specs.Bytes.{bytes_of}
use Rattle.elmd.specs.Sizes.{stride}
use Rattle.elmd.specs.Stream.{t_of, cipher_block, check_block}
use Rattle.elmd.specs.Laws.{inner_x}
use Rattle.sealing.proofs.Steps.{sealed_by, sealed_check, runs_on, runs_past, placed_on, placed_past}
use Rattle.sealing.proofs.state.Running.seal_block.Goals as goal

pub returns-then-next-t-clause-steps : goal.returns-then-next-t-clause-steps
returns-then-next-t-clause-steps g c u m i ec et eb r =
    let s = c.args.self.now in
    let st : stride c.args.t s.since ≡ 16 = ap (λ b. mathlib.Core.Bool.cond b 32 16) (ne_eqb _ _ c.if-next-t.true) in
    let n : s.since + 1 ≡ t_of u → ⊥ = λ e. c.if-next-t.true (e ∙ et) in
    let did = sealed_by u m i s r (value c.args.b) (value c.encrypt.result) _ (value c.xor-2.result) (value c.mixed.result.0, value c.mixed.result.1) eb (cc) c.mixed.ensures c.xor-2.ensures (cc) in
    (runs_on u m i s r _ n did.0 c.double.ensures c.double-2.ensures (cc) refl, c.store.ensures.front (omega (arith, c.requires.room)) ∙ ap bytes_of did.1 ∙ sym (placed_on u m i s r n))

pub returns-clause-back : goal.returns-clause-back
returns-clause-back g c =
    let old = c.args.out.now in
    let mid = c.store.new.out in
    let st : stride c.args.t c.args.self.now.since ≡ 32 = ap (λ b. mathlib.Core.Bool.cond b 32 16) (eq-eqb _ _ c.if-next-t.false) in
    let room : 32 ≤ length old = omega (arith, c.requires.room) in
    let kept : length mid ≡ length old = search rules in
    c.store-2.ensures.back (omega arith) ∙ sym (drop-drop 16 16 mid) ∙ ap (drop 16) (c.store.ensures.back (omega arith)) ∙ drop-drop 16 16 old

pub returns-clause-steps : goal.returns-clause-steps
returns-clause-steps g c u m i ec et eb r =
    let s = c.args.self.now in
    let old = c.args.out.now in
    let mid = c.store.new.out in
    let st : stride c.args.t s.since ≡ 32 = ap (λ b. mathlib.Core.Bool.cond b 32 16) (eq-eqb _ _ c.if-next-t.false) in
    let room : 32 ≤ length old = omega (arith, c.requires.room) in
    let kept : length mid ≡ length old = search rules in
    let front = c.store.ensures.front (omega arith) in
    let front2 = c.store-2.ensures.front (omega arith) in
    let n : s.since + 1 ≡ t_of u = c.if-next-t.false ∙ sym et in
    let did = sealed_by u m i s r (value c.args.b) (value c.encrypt.result) _ (value c.xor-2.result) (value c.mixed.result.0, value c.mixed.result.1) eb (cc) c.mixed.ensures c.xor-2.ensures (cc) in
    let w : value c.mixed.result.1 ≡ _ = did.0 in
    let block : value c.xor-2.result ≡ cipher_block u (inner_x u m) (suc i) = did.1 in
    let k = sealed_check u m i s r n in
    let check : value c.xor-4.result ≡ check_block u (inner_x u m) (suc (i / t_of u)) = cc in
    let p = placed_past u m i s r n in
    (runs_past u m i s r _ n w c.double.ensures (cc) (cc) refl, cc)
