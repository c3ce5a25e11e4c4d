use Rattle.std.proofs.Common.{◌≡◌, ℕ, suc, ◌+◌, ◌*◌, ◌/◌, ◌<◌, ◌≤◌, List, length, take, drop, sym, ap, ◌∙◌, subst, add-one, suc-mul, arith}
use Rattle.std.proofs.lemmas.Result.{err_from_is_err_and}
use Rattle.block.specs.Value.{value}
use Rattle.block.specs.Bytes.{of_bytes, padded}
use Rattle.elmd.specs.Stream.{Frame, t_of}
use Rattle.elmd.specs.Opening.{block_in}
use Rattle.elmd.proofs.Quo.{quo_mono}
use Rattle.elmd.proofs.Strides.{quo_due, quo_not}
use Rattle.opening.specs.declared.state.Reading.{Reading}
use Rattle.opening.specs.Judging.{Passed}
use Rattle.opening.proofs.Readings.{loaded}
use Rattle.opening.proofs.Passing.{passed_on, passed_check, failed_first, at_check}
use Rattle.opening.proofs.state.Reading.open_front.Goals as goal
use Rattle.opening.proofs.state.Reading.open_front.Goals.{then-since-t+in_ok-s, else-since-t}

-- what is loaded at a block's place, and at the place of the check behind it
module _ (u : Frame) (st : List ℕ) (i p t checks v : ℕ) (et : t_of u ≡ t) (ec : checks ≡ i / t) (h : i < p) (long : 16 * (p + p / t) ≤ length st) where
  among : checks ≡ i / t_of u
  among = ec ∙ ap (λ (n : ℕ). i / n) (sym et)

  block_here : v ≡ of_bytes (padded (take 16 (drop (16 * (i + checks)) st))) → v ≡ block_in st (i + i / t_of u)
  block_here ev =
      let q = quo_mono i p t (omega arith) in
      loaded st st (i + i / t_of u) (16 * (i + checks)) v (ap (λ (n : ℕ). take 16 (drop (16 * (i + n)) st)) among) (omega arith) ev

  check_here : (since : ℕ) → i ≡ i / t * t + since → since + 1 ≡ t → v ≡ of_bytes (padded (take 16 (drop (16 * (i + checks) + 16) st))) → v ≡ block_in st (suc i + i / t_of u)
  check_here since count due ev =
      let d = quo_due i t since count due in
      let q = quo_mono (suc i) p t (omega arith) in
      let a = among in
      let e : 16 * (i + checks) + 16 ≡ 16 * (suc i + i / t_of u) = omega arith in
      loaded st st (suc i + i / t_of u) (16 * (i + checks) + 16) v (ap (λ (n : ℕ). take 16 (drop n st)) e) (omega arith) ev

pub returns-in_err-s-clause-fronts : goal.returns-in_err-s-clause-fronts
returns-in_err-s-clause-fronts g c = (λ u ec et r.
    let inv = c.loop-i.invariant in
    let i = c.loop-i.i in
    let st = c.args.stream.now in
    let ok = inv.passed u ec et r in
    let since = c.loop-i.since in
    let count : i ≡ i / t_of u * t_of u + since = subst (λ (n : ℕ). i ≡ i / n * n + since) (sym et) inv.count in
    let due : since + 1 ≡ t_of u = c.if-since-t.true ∙ sym et in
    let eb = block_here u st i c.args.p c.args.t c.loop-i.s.checks (value c.load.result) et inv.checks c.loop-i-test.true c.requires.1.1.0 c.load.ensures in
    let rd = c.open_block.ensures.steps u st i (ec ∙ sym inv.same) eb ok.reads in
    let ek = check_here u st i c.args.p c.args.t c.loop-i.s.checks (value c.load-check.result) et inv.checks c.loop-i-test.true c.requires.1.1.0 since inv.count c.if-since-t.true c.load-check.ensures in
    let bad = c.in_err-s.ensures.passes u st (suc i) (i / t_of u) (ec ∙ sym (c.open_block.ensures.same ∙ inv.same)) (at_check u st i since c.loop-i.s _ ok count due) ek rd.0 in
    let first = failed_first u st i since c.loop-i.s _ ok count due c.args.p c.loop-i-test.true bad in
    let number : c.open_block.result.0.checks + 1 ≡ suc (i / t_of u) = add-one _ ∙ ap suc (c.open_block.ensures.counts ∙ inv.checks ∙ ap (λ (n : ℕ). i / n) (sym et)) in
    let p = err_from_is_err_and c.from_residual.result c.from_residual.ensures.1 in
    rw (p.1, p.2, c.in_err-s.ensures.counts, number) first)

-- an iteration keeps the count of blocks and checks
count_on : (i t since : ℕ) → i ≡ i / t * t + since → (since + 1 ≡ t → ⊥) → suc i ≡ suc i / t * t + (since + 1)
count_on i t since count n = let q : suc i / t * t ≡ i / t * t = ap (λ (k : ℕ). k * t) (quo_not i t since count n) in omega arith

count_past : (i t since : ℕ) → i ≡ i / t * t + since → since + 1 ≡ t → suc i ≡ suc i / t * t + 0
count_past i t since count due =
    let q : suc i / t * t ≡ suc (i / t) * t = ap (λ (k : ℕ). k * t) (quo_due i t since count due) in
    let m : suc (i / t) * t ≡ i / t * t + t = suc-mul (i / t) t in
    omega arith

pub loop-i-preserved : goal.loop-i-preserved
loop-i-preserved g c =
    let inv = c.loop-i.invariant in
    let i = c.loop-i.i in
    let t = c.args.t in
    let st = c.args.stream.now in
    let since = c.loop-i.since in
    let kept = c.loop-i.auto.out in
    let h = c.loop-i-test.true in
    let room : 16 * i + 16 ≤ length c.loop-i.out = (let r = c.requires.1.1.1 in omega arith) in
    let far : 16 * suc i ≡ 16 * i + 16 = omega arith in
    let front = ap (λ (k : ℕ). take k c.store.new.out) far ∙ c.store.ensures.front room in
    let checks = c.open_block.ensures.counts ∙ inv.checks in
    rw (add-one i) (elim c.if-since-t.branch [
      | then-since-t+in_ok-s w ↦ record {
        same = ap g.C.Cipher.meaning w.c-is ∙ w.in_ok-s.ensures.same ∙ c.open_block.ensures.same ∙ inv.same;
        count = count_past i t since inv.count w.if-since-t.true ∙ ap (λ (k : ℕ). suc i / t * t + k) (sym w.since-is);
        checks = ap (λ (s : Reading). s.checks) w.s-is ∙ w.in_ok-s.ensures.counts ∙ add-one _ ∙ ap suc checks ∙ sym (quo_due i t since inv.count w.if-since-t.true);
        passed = λ u ec et r.
            let ok = inv.passed u ec et r in
            let eb = block_here u st i c.args.p t c.loop-i.s.checks (value c.load.result) et inv.checks h c.requires.1.1.0 c.load.ensures in
            let rd = c.open_block.ensures.steps u st i (ec ∙ sym inv.same) eb ok.reads in
            let count : i ≡ i / t_of u * t_of u + since = subst (λ (n : ℕ). i ≡ i / n * n + since) (sym et) inv.count in
            let due : since + 1 ≡ t_of u = w.if-since-t.true ∙ sym et in
            let ek = check_here u st i c.args.p t c.loop-i.s.checks (value w.load-check.result) et inv.checks h c.requires.1.1.0 since inv.count w.if-since-t.true w.load-check.ensures in
            let pass = w.in_ok-s.ensures.passes u st (suc i) (i / t_of u) (ec ∙ sym (c.open_block.ensures.same ∙ inv.same)) (at_check u st i since c.loop-i.s _ ok count due) ek rd.0 in
            subst (λ (s : Reading). Passed u st (suc i) s (take (16 * suc i) c.store.new.out)) (sym w.s-is) (passed_check u st i since c.loop-i.s _ ok count due w.in_ok-s.s (value c.open_block.result.1) _ pass.0 pass.1 rd.1 front);
      }
      | else-since-t w ↦ record {
        same = ap g.C.Cipher.meaning w.c-is ∙ c.open_block.ensures.same ∙ inv.same;
        count = count_on i t since inv.count w.if-since-t.false ∙ ap (λ (k : ℕ). suc i / t * t + k) (sym w.since-is);
        checks = ap (λ (s : Reading). s.checks) w.s-is ∙ checks ∙ sym (quo_not i t since inv.count w.if-since-t.false);
        passed = λ u ec et r.
            let ok = inv.passed u ec et r in
            let eb = block_here u st i c.args.p t c.loop-i.s.checks (value c.load.result) et inv.checks h c.requires.1.1.0 c.load.ensures in
            let rd = c.open_block.ensures.steps u st i (ec ∙ sym inv.same) eb ok.reads in
            let count : i ≡ i / t_of u * t_of u + since = subst (λ (n : ℕ). i ≡ i / n * n + since) (sym et) inv.count in
            let due : since + 1 ≡ t_of u → ⊥ = (λ e. w.if-since-t.false (e ∙ et)) in
            subst (λ (s : Reading). Passed u st (suc i) s (take (16 * suc i) c.store.new.out)) (sym w.s-is) (passed_on u st i since c.loop-i.s _ ok count c.open_block.result.0 (value c.open_block.result.1) _ due rd.0 rd.1 front);
      }
    ])
