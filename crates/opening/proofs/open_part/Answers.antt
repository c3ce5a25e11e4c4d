use Rattle.std.proofs.Common.{◌≡◌, ℕ, List, Err, ◌+◌, ◌-◌, ◌*◌, length, take, drop, replicate, sym, ap, ◌∙◌, arith, length-drop, rules}
use Rattle.std.proofs.lemmas.List.{take_all}
use Rattle.std.proofs.lemmas.Result.{err_from_is_err_and}
use Rattle.std.specs.Option.{ok_or}
use Rattle.block.specs.Value.{value}
use Rattle.elmd.specs.declared.refusal.Refusal.TheVariants.{BadTag}
use Rattle.elmd.specs.Refusals.{mark_number}
use Rattle.elmd.proofs.Counts.{interval_is}
use Rattle.opening.proofs.Parts.{front_fails, end_fails, end_good}
use Rattle.opening.proofs.open_part.Goals as goal

pub returns-in_err-s-clause-judged : goal.returns-in_err-s-clause-judged
returns-in_err-s-clause-judged g c =
    let o = c.args.outline in
    let kept : length c.open_front.new.out ≡ 16 * o.shape.blocks = search rules in
    let p = err_from_is_err_and c.from_residual.result c.from_residual.ensures.1 in
    λ u ec es r. rw (p.1, p.2) (
      c.drop-guard.ensures ∙ ap (λ (n : ℕ). replicate n 0) kept,
      front_fails u c.args.stream.now (mark_number o.mark) o.shape.blocks c.requires.1.0.some _ (c.in_err-s.ensures.fronts u ec (interval_is u o.settings es ∙ sym c.from-t.ensures) r),
    )

-- a stream from a place on
rest_is : (s : List ℕ) (n p i k : ℕ) → n ≡ 16 * (p + i) → i ≡ k → take (length s - n) (drop n s) ≡ drop (16 * (p + k)) s
rest_is s n p i k e f = take_all (length s - n) (drop n s) (omega (arith, length-drop n s)) ∙ ap (λ (m : ℕ). drop m s) (e ∙ ap (λ (m : ℕ). 16 * (p + m)) f)

pub returns-in_err-last-clause-judged : goal.returns-in_err-last-clause-judged
returns-in_err-last-clause-judged g c =
    let o = c.args.outline in
    let kept : length c.open_front.new.out ≡ 16 * o.shape.blocks = search rules in
    let front = c.in_ok-s.ensures in
    let e : Err c.in_err-last.field-0.0 ≡ Err BadTag = c.in_err-last.ensures.value ∙ ap (λ r. ok_or r BadTag) c.in_err-last.ensures.ok_part in
    let why : c.in_err-last.field-0.0 ≡ BadTag = cc in
    let p = err_from_is_err_and c.from_residual-in_err-last.result c.from_residual-in_err-last.ensures.1 in
    λ u ec es r.
    let ok = front.fronts u ec (interval_is u o.settings es ∙ sym c.from-t.ensures) r in rw (p.1, p.2, why) (
      c.drop-guard-in_err-last.ensures ∙ ap (λ (n : ℕ). replicate n 0) kept,
      end_fails u c.args.stream.now (mark_number o.mark) o.shape.blocks c.requires.1.0.some c.in_ok-s.s _ ok
          ((rw c.in_err-last.ensures.ok_part at c.judge_end.ensures.ends) u c.args.stream.now (o.shape.blocks - 1) (ec ∙ sym front.same) es (rest_is c.args.stream.now _ (o.shape.blocks - 1) c.in_ok-s.s.checks _ (omega arith) ok.reads.passed) ok.reads),
    )

pub returns-clause-judged : goal.returns-clause-judged
returns-clause-judged g c =
    let o = c.args.outline in
    let front = c.in_ok-s.ensures in
    λ u ec es r.
    let ok = front.fronts u ec (interval_is u o.settings es ∙ sym c.from-t.ensures) r in
    let end = (rw c.in_ok-last.ensures.ok_part at c.judge_end.ensures.ends) u c.args.stream.now (o.shape.blocks - 1) (ec ∙ sym front.same) es (rest_is c.args.stream.now _ (o.shape.blocks - 1) c.in_ok-s.s.checks _ (omega arith) ok.reads.passed) ok.reads in (
      c.in_ok-last.k,
      end_good u c.args.stream.now (mark_number o.mark) o.shape.blocks c.requires.1.0.some c.in_ok-s.s _ ok c.in_ok-last.k (value c.in_ok-last.last) _ end.0 end.1 (c.accept.ensures ∙ c.put_last.ensures),
    )
