use Rattle.std.proofs.Common.{◌≡◌, ℕ, suc, ◌+◌, ◌-◌, ◌*◌, ◌/◌, ◌≤◌, List, ◌++◌, length, take, drop, sym, refl, ap, ◌∙◌, subst, arith, take-append-drop, length-take, length-drop}
use borrow.Rule.Slice.PartMut.{mid_len}
use Rattle.block.specs.Value.{value}
use Rattle.block.specs.Bytes.{of_bytes, padded}
use Rattle.elmd.specs.Laws.{inner_x}
use Rattle.elmd.specs.Stream.{block_at, places, stream}
use Rattle.elmd.proofs.Counts.{interval_is, marked_is}
use Rattle.elmd.proofs.Steps.{absorbing}
use Rattle.sealing.specs.Running.{Runs, end_bytes}
use Rattle.sealing.proofs.Fronts.{runs_more}
use Rattle.sealing.proofs.Whole.{size_is, stream_end, stream_is, ending_at}
use Rattle.sealing.proofs.Writes.{whole-behind}
use Rattle.sealing.proofs.write_stream.Goals as goal

pub seal_front-at-requires-clause-room : goal.seal_front-at-requires-clause-room
seal_front-at-requires-clause-room g c =
    let s = c.args.h.settings in
    let size = size_is s (length c.args.message.now) (length c.split_at.result.0.now / 16) _ (omega (arith, c.requires.some)) (omega arith) refl in
    let room = c.requires.room in
    rw (c.from.ensures, ap (λ q. q.0) c.into_parts.ensures) (omega arith)

pub write_end-requires-clause-room : goal.write_end-requires-clause-room
write_end-requires-clause-room g c =
    let s = c.args.h.settings in
    let end = ending_at s _ _ _ _ _ _ (ap (λ q. q.0) c.into_parts.ensures) c.split_at.ensures.front_len c.split_at.ensures.back_len (rw c.from.ensures at c.seal_front-at.ensures.size) c.tag_length-tag.ensures in
    let size = size_is s _ _ _ (omega (arith, c.requires.some)) end.whole end.tag_is in
    let place = end.place in
    let room = c.requires.room in
    let kept = c.seal_front-at.auto.out in
    simp (length-take, length-drop) (omega arith)

pub returns-clause-mark : goal.returns-clause-mark
returns-clause-mark g c = marked_is c.args.message.now c.of_length-mark.result c.of_length-mark.ensures

pub returns-clause-bytes : goal.returns-clause-bytes
unfolding block_at
returns-clause-bytes g c u ec h =
    let s = c.args.h.settings in
    let m = c.args.message.now in
    let front = c.split_at.result.0.now in
    let last = c.split_at.result.1.now in
    let p = length front / 16 in
    let at = c.seal_front-at.result in
    let tag = c.tag_length-tag.result in
    let mid = c.seal_front-at.new.out in
    let new = c.write_end.new.out in
    let parts = c.into_parts.ensures in
    let end = ending_at s _ _ _ _ _ _ (ap (λ q. q.0) parts) c.split_at.ensures.front_len c.split_at.ensures.back_len (rw c.from.ensures at c.seal_front-at.ensures.size) c.tag_length-tag.ensures in
    let some = c.requires.some in
    let pos : 1 ≤ length m = omega arith in
    let size = size_is s _ _ _ pos end.whole end.tag_is in
    let place = end.place in
    let room = c.requires.room in
    let kept = c.seal_front-at.auto.out in
    let kept2 = c.write_end.auto.out in
    let fits : at ≤ length mid = omega arith in
    let long : length new ≡ length mid - at = kept2 ∙ mid_len at (length mid) mid (omega arith) in
    let enough : 16 + tag ≤ length new = omega arith in
    let j : ℕ = (length m - 1) / 16 * 16 in
    let joined : front ++ last ≡ m = ap (λ (z : List ℕ). z ++ last) c.split_at.ensures.front ∙ ap (λ (z : List ℕ). take j m ++ z) c.split_at.ensures.back ∙ take-append-drop j m in
    let low : 16 * p ≤ length front = omega arith in
    let interval = ap (λ q. q.0.interval) parts in
    let first = c.new-running.ensures.starts u front (ap (λ q. value q.1) parts ∙ h.based) (ap (λ q. value q.2) parts ∙ h.started) in
    let did = c.seal_front-at.ensures.runs u ec (interval_is u s h.chosen ∙ sym interval ∙ sym c.from.ensures) first in
    let runs : Runs u m p c.seal_front-at.new.self = subst (λ (z : List ℕ). Runs u z p c.seal_front-at.new.self) joined (runs_more u front last p _ low did.0) in
    let written : take at mid ≡ places u (inner_x u m) p = did.1 ∙ (absorbing u front m p (last, joined) low).0 in
    let spot : j ≡ 16 * p = omega arith in
    let block : value c.load.result ≡ block_at m (suc p) = c.load.ensures ∙ ap (λ (z : List ℕ). of_bytes (padded (take 16 z))) (c.split_at.ensures.back ∙ ap (λ (i : ℕ). drop i m) spot) in
    let ended = c.write_end.ensures.ends u m p (ec ∙ sym c.seal_front-at.ensures.same) runs (marked_is m _ c.of_length-mark.ensures) block in
    whole-behind at (length mid - at) (16 + tag) mid new fits enough c.args.out.now kept2 c.write_end.ensures.back c.seal_front-at.ensures.back (stream u m) (places u (inner_x u m) p) (end_bytes u m p tag)
    (stream_is s _ _ _ pos end.whole end.tag_is u m h.chosen refl) (stream_end s _ _ _ pos end.whole end.tag_is u m h.chosen refl ∙ ap (λ (i : ℕ). i + (16 + tag)) (sym place)) written ended
