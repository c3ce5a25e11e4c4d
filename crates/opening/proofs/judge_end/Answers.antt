use Rattle.std.proofs.Common.{◌≡◌, ℕ, suc, Bool, true, false, Option, Some, None, refl, ◌-◌, length, drop, take, sym, ◌∙◌, arith, length-drop}
use Rattle.std.proofs.lemmas.List.{take_all}
use Rattle.std.proofs.lemmas.Bool.{true≢false}
use Rattle.std.specs.Prelude.{IfSome}
use Rattle.std.specs.Bool.{then_some}
use Rattle.block.specs.declared.raw.Block.{Block}
use Rattle.block.specs.Value.{value}
use Rattle.elmd.specs.Refusals.{mark_number}
use Rattle.opening.specs.Judging.{Held, Ended}
use Rattle.opening.proofs.Tags.{ending_le}
use Rattle.opening.proofs.Endings.{last_two, end_right, end_back}
use Rattle.opening.proofs.judge_end.Goals as goal

pub returns-in_err-k : goal.returns-in_err-k
returns-in_err-k g c = rw c.from_residual.ensures (record {
  held = tt;
  ends = λ u st p ec es there r q e.
      let x = last_two u st p c.args.s _ c.args.outline.mark c.args.end.now (value c.load.result) (value c.open_last.result.0) (value c.open_last.result.1) r ec there (omega (arith, c.requires.0)) c.load.ensures c.open_last.ensures.value in
      c.in_err-k.ensures q (end_back u st c.args.outline p (value c.open_last.result.0) (value c.open_last.result.1) c.args.s es r x.0 x.1 c.args.end.now c.requires.0 there q e).0;
  same = c.open_last.ensures.same;
})

-- an answer that is there by a flag
by_flag : (P : Option (Block × ℕ) → Type 0) (b : Bool) (x : Block × ℕ) → (b ≡ true → P (Some x)) → (b ≡ false → P None) → P (then_some b x)
by_flag P true x y n = y refl
by_flag P false x y n = n refl

pub returns-clause-held : goal.returns-clause-held
returns-clause-held g c =
    let e = c.in_ok-k.ensures in
    rw c.then_some.ensures (by_flag (λ r. IfSome r (λ x. Held (value x.0) x.1)) c.tag_matches-genuine.result (c.open_last.result.0, c.in_ok-k.k)
    (λ _. record { some = e.some; most = ending_le c.args.outline.mark e; filled = e.filled }) (λ _. tt))

pub returns-clause-ends : goal.returns-clause-ends
returns-clause-ends g c = λ u st p ec es there r.
    let e = c.in_ok-k.ensures in
    let end = c.args.end.now in
    let rest : take (length end - 16) (drop 16 end) ≡ drop 16 end = take_all (length end - 16) (drop 16 end) (omega (arith, length-drop 16 end)) in
    let tag = rw rest at c.tag_matches-genuine.ensures in
    let x = last_two u st p c.args.s _ c.args.outline.mark c.args.end.now (value c.load.result) (value c.open_last.result.0) (value c.open_last.result.1) r ec there (omega (arith, c.requires.0)) c.load.ensures c.open_last.ensures.value in
    rw c.then_some.ensures (by_flag (λ z. Ended u st (mark_number c.args.outline.mark) (suc p) z) c.tag_matches-genuine.result (c.open_last.result.0, c.in_ok-k.k)
    (λ yes. (end_right u st c.args.outline p (value c.open_last.result.0) (value c.open_last.result.1) c.args.s es r x.0 x.1 c.args.end.now c.requires.0 there c.in_ok-k.k e (tag.0 yes), x.0))
    (λ no q b. true≢false (sym (tag.1 (end_back u st c.args.outline p (value c.open_last.result.0) (value c.open_last.result.1) c.args.s es r x.0 x.1 c.args.end.now c.requires.0 there q b).1) ∙ no)))
