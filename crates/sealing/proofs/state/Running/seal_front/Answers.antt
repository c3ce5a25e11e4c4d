use Rattle.std.proofs.Common.{◌≡◌, ◌-◌, ◌≤◌, length, take, refl, ap, ◌∙◌, arith, rules, length-take, length-drop}
use Rattle.std.specs.Slice.Iter.{chunks_exact_rest}
use borrow.Rule.Slice.PartMut.{same_len_mid, mid_len}
use Rattle.sealing.proofs.Fronts.{front_none, next_fits, front_more}
use Rattle.sealing.proofs.Writes.{take-behind, drop-behind}
use Rattle.sealing.proofs.state.Running.seal_front.Goals as goal

pub loop-part-init : goal.loop-part-init
loop-part-init g c =
    let e = ap chunks_exact_rest c.into_iter-part-iterator.ensures.into_iter_gives ∙ c.chunks_exact-part-items.ensures.rest in
    record {
      callable = search rules;
      finite = tt;
      by_sixteen = search rules;
      same = refl;
      fits = omega arith;
      back = refl {a = c.args.out.now};
      sealed = front_none _ c.args.t c.args.self.now c.args.front.now _ e c.requires.fresh;
    }

pub seal_block-at-requires-clause-room : goal.seal_block-at-requires-clause-room
seal_block-at-requires-clause-room g c =
    let inv = c.loop-part.invariant in
    let steps = c.in-Some.ensures.steps in
    let kept = c.loop-part.auto.out in
    let fits = next_fits _ _ _ _ _ _ _ _ inv.sealed c.in-Some.part.now (chunks_exact_rest c.next.new.self) steps.1.0 (steps.1.1 ∙ inv.by_sixteen) in
    let room = c.requires.room in
    simp (length-take, length-drop) (omega arith)

pub loop-part-preserved : goal.loop-part-preserved
loop-part-preserved g c =
    let inv = c.loop-part.invariant in
    let steps = c.in-Some.ensures.steps in
    let at = c.loop-part.at in
    let size = c.seal_block-at.result in
    let old = c.loop-part.out in
    let new = c.seal_block-at.new.out in
    let did = c.seal_block-at.ensures in
    let room = c.requires.room in
    let fits = next_fits _ _ _ _ _ _ _ _ inv.sealed c.in-Some.part.now (chunks_exact_rest c.next.new.self) steps.1.0 (steps.1.1 ∙ inv.by_sixteen) in
    let e = did.size in
    let kept = c.loop-part.auto.out in
    let kept2 = c.seal_block-at.auto.out in
    let whole = same_len_mid at (length old - at) old new kept2 in
    let long : length new ≡ length old - at = kept2 ∙ mid_len at (length old) old (omega arith) in
    let enough : size ≤ length new = omega arith in
    record {
      callable = search rules;
      finite = tt;
      by_sixteen = steps.0 ∙ inv.by_sixteen;
      same = did.same ∙ inv.same;
      fits = omega arith;
      back = drop-behind at (length old - at) size old new inv.fits enough c.args.out.now kept2 did.back inv.back;
      sealed = rw (take-behind at (length old - at) size old new inv.fits enough)
          (front_more _ _ _ _ _ _ _ _ inv.sealed _ _ c.in-Some.part.now (chunks_exact_rest c.next.new.self) _ size (take size new) inv.same steps.1.0 (steps.1.1 ∙ inv.by_sixteen) c.load.ensures did.size did.since did.steps);
    }
