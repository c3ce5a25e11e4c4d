use Rattle.std.proofs.Common.{◌≡◌, ℕ, ◌+◌, ◌-◌, ◌≤◌, List, length, sym, ap, subst, arith}
use borrow.Rule.Slice.PartMut.{put_mid}
use Rattle.fileparts.specs.declared.reader.Reader.{Reader}
use Rattle.fileparts.specs.Parts.{layout_of}
use Rattle.fileparts.proofs.Joining.{Copied, Came, comes, copy_more}
use Rattle.fileparts.proofs.copy.join.Goals as goal
use Rattle.fileparts.proofs.copy.join.Goals.{After-bytes-bytes}

-- the part that came, and where the walk stands then
came : (c : After-bytes-bytes)
    → Came c.into_iter-part-iterator.result.file.now (layout_of c.into_iter-part-iterator.result) c.loop-part.invariant.2.0 c.place-place.result c.bytes-bytes.result.now c.next.new.self
came c =
    comes c.into_iter-part-iterator.result.file.now (layout_of c.into_iter-part-iterator.result) c.loop-part.invariant.2.0 c.loop-part.part-iterator c.next.new.self c.in-Some.part c.place-place.result c.bytes-bytes.result.now
    c.place-place.ensures c.bytes-bytes.ensures c.loop-part.invariant.2.1 c.in-Some.ensures.steps

-- it ends within the file, and so within the output
came_within : (c : After-bytes-bytes) → c.place-place.result + length c.bytes-bytes.result.now ≤ length c.loop-part.out
came_within c =
    let b = (came c).walks.within in
    let p = (came c).place_is in
    let e = ap (λ (r : Reader). length r.file.now) c.into_iter-part-iterator.ensures.into_iter_gives in
    let r = c.requires.room in
    let k = c.loop-part.auto.out in
    omega arith

pub loop-part-preserved : goal.loop-part-preserved
loop-part-preserved c =
    let d : After-bytes-bytes = (goal.at.loop-part-preserved c).After-bytes-bytes in
    let file = c.into_iter-part-iterator.result.file.now in
    let v = c.loop-part.invariant.2 in
    let at : ℕ = v.0 in
    let b = c.bytes-bytes.result.now in
    let k : at + length b - at ≡ length b = omega arith in
    let p = (came d).place_is in
    let within = came_within d in
    let more = copy_more file c.args.out.now c.loop-part.out b at (at + length b - at) k (omega arith) (came d).bytes_are v.2 in
    let put = subst (λ (x : List ℕ). Copied file c.args.out.now (at + length b) (put_mid at (at + length b - at) c.loop-part.out x)) (sym c.copy_from_slice.ensures.after) more in
    (tt, tt, (at + length b, (came d).walks, subst (λ (x : ℕ). Copied file c.args.out.now (at + length b) (put_mid x (x + length b - x) c.loop-part.out c.copy_from_slice.new.self)) (sym p) put))
