use Rattle.std.proofs.Common.{◌≡◌, ℕ, pred, ◌*◌, ◌/◌, ◌^◌, ◌<◌, [], ◌++◌, length, drop, Ok, Err, Result, sym, refl, ap, ◌∙◌, subst, arith, length-take}
use mir.Facts.{Fits-lt-pow}
use Rattle.std.proofs.ByRecursion.{All-from_get_or}
use Rattle.block.specs.Value.{value, value_lt}
use Rattle.cipher.specs.Meaning.{Meaning, Lawful}
use Rattle.elmd.specs.declared.settings.Settings.{Settings}
use Rattle.elmd.specs.Settings.{settings_bytes}
use Rattle.elmd.specs.Refusals.{mark_number}
use Rattle.elmd.specs.Stream.{Frame, iv}
use Rattle.elmd.specs.Heading.{frame_of, Closes}
use Rattle.elmd.specs.Opening.{blocks_of}
use Rattle.elmd.specs.declared.refusal.Refusal.{Refusal}
use Rattle.elmd.specs.Laws.{Sound}
use Rattle.elmd.proofs.Counts.{interval_is}
use Rattle.opening.specs.Judging.{Judged}
use Rattle.opening.proofs.Passing.{first_reads}
use Rattle.opening.proofs.Words.{judgement, seal_found}
use Rattle.opening.proofs.open_closed.Goals as goal

err_not_ok : {e : Refusal} {n : ℕ} → ◌≡◌ {A = Result ℕ Refusal} (Err e) (Ok n) → ⊥
err_not_ok e = let z : ◌≡◌ {A = ℕ} 0 1 = cc in omega arith

pub overflow_mul-n : goal.overflow_mul-n
overflow_mul-n g c =
    let laid = c.in_ok-shape.ensures (frame_of (g.C.Cipher.meaning c.args.c.now) (settings_bytes c.into_parts.result.0) [] []) refl in
    let m = laid.most in
    omega arith

pub returns-then-out-n : goal.returns-then-out-n
returns-then-out-n g c = record {
  opened = λ u ec cl.
      let laid = c.in_ok-shape.ensures u (ap (λ (x : Settings). settings_bytes x) (ap (λ q. q.0) c.into_parts.ensures) ∙ cl.chosen) in
      let l = laid.l_is in
      record {
        no_length = λ no. absurd (no laid.possible.0 laid.possible.1);
        no_room = λ m hm lt. (refl, refl);
        judged = λ m hm room. absurd (let t = c.if-out-n.true in omega arith);
      };
  found = λ u ec cl. record { found = λ n e. absurd (err_not_ok e) };
  same = refl;
}

pub open_part-requires : goal.open_part-requires
open_part-requires g c =
    let u = frame_of (g.C.Cipher.meaning c.args.c.now) (settings_bytes c.into_parts.result.0) [] [] in
    let laid = c.in_ok-shape.ensures u refl in
    let few = c.if-out-n.false in (
      c.new.ensures.passed,
      (
        record {
          some = laid.some;
          most = laid.most;
          h_is = laid.h_is ∙ ap (λ (n : ℕ). pred c.in_ok-shape.shape.blocks / n) (interval_is u c.into_parts.result.0 refl);
          size = laid.size;
          tag_most = laid.tag_most;
        },
        simp length-take (omega arith),
      ),
    )

pub returns : goal.returns
returns g c =
    let s = c.args.stream.now in
    let k = mark_number c.args.mark in
    let judged : (u : Frame) → u.cipher ≡ g.C.Cipher.meaning c.args.c.now → Closes u c.args.h → Sound u × Judged u s k (blocks_of u (length s)) c.open_part.result c.open_part.new.part =
    λ u ec cl.
    let parts = c.into_parts.ensures in
    let set : settings_bytes c.into_parts.result.0 ≡ u.settings = ap (λ (x : Settings). settings_bytes x) (ap (λ q. q.0) parts) ∙ cl.chosen in
    let bas = ap (λ q. value q.1) parts ∙ cl.based in
    let ivs = ap (λ q. value q.2) parts ∙ cl.started in
    let l = (c.in_ok-shape.ensures u set).l_is in
    let first = first_reads u s c.into_parts.result.1 c.into_parts.result.2 _ bas ivs c.new.ensures in
    let lawful : Lawful u.cipher = subst (λ (m : Meaning). Lawful m) (sym ec) (g.met.C.Cipher.lawful c.args.c.now) in
    let small : iv u < 2 ^ 128 = (let b = value_lt c.into_parts.result.2 in subst (λ (n : ℕ). n < 2 ^ 128) ivs b) in
    (record { lawful = lawful; iv_lt = small }, subst (λ (n : ℕ). Judged u s k n c.open_part.result c.open_part.new.part) l (c.open_part.ensures.judged u ec set first)) in
    let bytes = All-from_get_or (λ (x : ℕ). x < 256) s 0 (λ i h. Fits-lt-pow (c.type_inv.stream i)) in
    record {
      opened = λ u ec cl.
          let j = judged u ec cl in
          let laid = c.in_ok-shape.ensures u (ap (λ (x : Settings). settings_bytes x) (ap (λ q. q.0) c.into_parts.ensures) ∙ cl.chosen) in
          let l = laid.l_is in
          let none : 16 * c.in_ok-shape.shape.blocks ≡ 16 * blocks_of u (length s) = omega arith in
          record {
            no_length = λ no. absurd (no laid.possible.0 laid.possible.1);
            no_room = λ m hm lt. absurd (let t = c.if-out-n.false in omega arith);
            judged = λ m hm room. judgement u j.0 s bytes k m hm c.open_part.result c.open_part.new.part c.args.out.now _ j.1 (ap (λ (n : ℕ). c.open_part.new.part ++ drop n c.args.out.now) none);
          };
      found = λ u ec cl.
          let j = judged u ec cl in
          let p = (c.in_ok-shape.ensures u (ap (λ (x : Settings). settings_bytes x) (ap (λ q. q.0) c.into_parts.ensures) ∙ cl.chosen)).possible in
          seal_found u j.0 s bytes k p.0 p.1 c.open_part.result c.open_part.new.part j.1;
      same = c.open_part.ensures.same;
    }
