use Rattle.std.proofs.Common.{◌≡◌, ℕ, ◌+◌, ◌*◌, ◌<◌, ◌≤◌, length, take, sym, ◌∙◌, subst, arith}
use Rattle.std.proofs.lemmas.List.{take_all}
use Rattle.block.specs.Value.{value}
use Rattle.elmd.specs.Stream.{t_of}
use Rattle.opening.specs.Segment.{Ran}
use Rattle.opening.proofs.Runs.{drops_more, reads_at, block_there, ran_more}
use Rattle.opening.proofs.segment.open_run.Goals as goal

pub loop-i-preserved : goal.loop-i-preserved
loop-i-preserved g c =
    let inv = c.loop-i.invariant in
    let k = c.loop-i.i in
    let s = c.loop-i.s in
    let h = c.loop-i-test.true in
    let kept = c.loop-i.auto.held in
    let room : 16 * k + 16 ≤ length c.loop-i.held = omega arith in
    record {
      same = c.open_block.ensures.same ∙ inv.same;
      checks = c.open_block.ensures.counts ∙ inv.checks;
      rest = drops_more c.loop-i.held c.args.held.now c.store.new.out k inv.rest (c.store.ensures.back room);
      ran = λ u st i j n ec at nt size there r.
          let few : k < t_of u = omega arith in
          let ran = inv.ran u st i j n ec at nt size there r in
          let eb = block_there u st i j k s at few n (value c.load.result) c.args.held.now c.loop-i.held (omega arith) there inv.rest room c.load.ensures in
          let rd = c.open_block.ensures.steps u st (i + k) (ec ∙ sym inv.same) eb (reads_at u st i j k s at few ran.reads) in
          ran_more u st i j k s at few c.open_block.result.0 (value c.open_block.result.1) c.loop-i.held c.store.new.out ran rd.0 rd.1 (c.store.ensures.front room);
    }

pub returns-clause-runs : goal.returns-clause-runs
returns-clause-runs g c = λ u st i j n ec at few size there r.
    let k = c.loop-i.i in
    let h = c.loop-i-test.false in
    let kept = c.loop-i.auto.held in
    let e : k ≡ n = omega arith in
    let all : take (16 * k) c.loop-i.held ≡ c.loop-i.held = take_all (16 * k) c.loop-i.held (omega arith) in
    subst (λ (z : ℕ). Ran u st i j z c.loop-i.s c.loop-i.held) e (subst (Ran u st i j k c.loop-i.s) all (c.loop-i.invariant.ran u st i j n ec at few size there r))
