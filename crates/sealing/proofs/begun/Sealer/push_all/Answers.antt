use Rattle.std.proofs.Common.{◌≡◌, ℕ, ◌+◌, ◌-◌, ◌≤◌, List, length, take, sym, ap, ◌∙◌, subst, arith, rules, length-take, length-drop, length-append}
use borrow.Rule.Slice.PartMut.{same_len_mid, mid_len}
use Rattle.std.specs.Slice.Iter.{chunks_rest}
use Rattle.sealing.specs.Sealer.{Grows, gained}
use Rattle.sealing.proofs.Pieces.{room_next, taken_more, taken_all, held_none}
use Rattle.sealing.proofs.Writes.{take-behind, drop-behind}
use Rattle.sealing.proofs.begun.Sealer.push_all.Goals as goal

pub push-at-requires-in-loop-part-clause-within : goal.push-at-requires-in-loop-part-clause-within
push-at-requires-in-loop-part-clause-within g c =
    let inv = c.loop-part.invariant in
    let steps = c.in-Some.ensures.steps in
    let s = c.loop-part.self in
    let t = inv.taken in
    let n = t.carried.n_kept in
    let k = t.carried.counted in
    let l : length c.args.piece.now ≡ length t.done + length (chunks_rest c.loop-part.part-iterator) = sym (ap length t.joined) ∙ length-append t.done _ in
    let stated = c.requires.stated in
    let some = steps.1.2 in
    let short = steps.1.1 in
    let by_sixteen = inv.by_sixteen in
    let none = held_none s.n s.k (omega arith) (inv.whole some) in
    omega arith

pub push-at-requires-in-loop-part-clause-room : goal.push-at-requires-in-loop-part-clause-room
push-at-requires-in-loop-part-clause-room g c =
    let inv = c.loop-part.invariant in
    let steps = c.in-Some.ensures.steps in
    let kept : length c.loop-part.out ≡ length c.args.out.now = c.loop-part.auto.out ∙ c.push-at.auto.out in
    let room : c.loop-part.at + gained c.loop-part.self (length c.in-Some.part.now) ≤ length c.args.out.now = room_next _ _ _ _ _ _ _ _ _ inv.taken steps.1.0 _ c.requires.room in
    simp (length-take, length-drop) (omega arith)

pub loop-part-preserved : goal.loop-part-preserved
loop-part-preserved g c =
    let inv = c.loop-part.invariant in
    let steps = c.in-Some.ensures.steps in
    let at = c.loop-part.at in
    let size = c.push-at-in-loop-part.result in
    let old = c.loop-part.out in
    let new = c.push-at-in-loop-part.new.out in
    let did = c.push-at-in-loop-part.ensures in
    let room : c.loop-part.at + gained c.loop-part.self (length c.in-Some.part.now) ≤ length c.args.out.now = room_next _ _ _ _ _ _ _ _ _ inv.taken steps.1.0 _ c.requires.room in
    let e = did.size in
    let kept : length c.loop-part.out ≡ length c.args.out.now = c.loop-part.auto.out ∙ c.push-at.auto.out in
    let kept2 = c.push-at-in-loop-part.auto.out in
    let whole = same_len_mid at (length old - at) old new kept2 in
    let long : length new ≡ length old - at = kept2 ∙ mid_len at (length old) old (omega arith) in
    let enough : size ≤ length new = omega arith in
    let counted = did.carried.counted in
    let l : length (chunks_rest c.loop-part.part-iterator) ≡ length c.in-Some.part.now + length (chunks_rest c.next.new.self) = ap length steps.1.0 ∙ length-append c.in-Some.part.now _ in
    let short = steps.1.1 in
    let by_sixteen = inv.by_sixteen in
    record {
      callable = search rules;
      finite = tt;
      by_sixteen = steps.0 ∙ inv.by_sixteen;
      same = did.same ∙ inv.same;
      fits = omega arith;
      back = drop-behind at (length old - at) size old new inv.fits enough c.args.out.now kept2 did.back inv.back;
      whole = λ more. let full : length c.in-Some.part.now ≡ 16 = omega arith in let was = inv.whole steps.1.2 in omega arith;
      taken = rw (take-behind at (length old - at) size old new inv.fits enough) (taken_more _ _ _ _ _ _ _ _ _ inv.taken steps.1.0 _ _ size (take size new) inv.same did.carried did.size did.grows);
    }

pub returns-clause-grows : goal.returns-clause-grows
returns-clause-grows g c =
    let t = c.loop-part.invariant.taken in
    let all = taken_all _ _ _ _ _ _ _ t c.in-None.ensures.steps.1.0 in
    let place : c.loop-part.at ≡ gained c.args.self.now (length c.args.piece.now) = t.place ∙ ap (λ (z : List ℕ). gained c.args.self.now (length z)) all in
    subst (λ (n : ℕ). Grows (g.C.Cipher.meaning c.args.c.now) c.args.self.now c.args.piece.now c.loop-part.self (take n c.loop-part.out)) place
    (subst (λ (z : List ℕ). Grows (g.C.Cipher.meaning c.args.c.now) c.args.self.now z c.loop-part.self (take c.loop-part.at c.loop-part.out)) all t.grows)
