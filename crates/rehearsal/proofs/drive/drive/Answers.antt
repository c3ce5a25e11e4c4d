use Rattle.std.proofs.Common.{◌≡◌, ℕ, ◌+◌, suc, ◌-◌, ◌<◌, ◌∷◌, min, List, ◌++◌, length, take, drop, get_or, sym, ap, ◌∙◌, subst, arith}
use Rattle.std.proofs.Math.Seq.{take-add}
use Rattle.std.proofs.lemmas.List.{length-drop, length-take-le, drop-drop, drop-set-lt, drop_more}
use Rattle.cipher.specs.Meaning.{Meaning}
use Rattle.rehearsal.specs.declared.calls.Call.{Call}
use Rattle.rehearsal.specs.Calls.{room_of, Run}
use Rattle.rehearsal.proofs.Runs.{within_more, run_at_more}
use Rattle.rehearsal.proofs.drive.drive.Goals as goal

pub loop-answer-preserved : goal.loop-answer-preserved
loop-answer-preserved g c =
    let inv = c.loop-answer.invariant in
    let call = c.in-Some.call.now in
    let calls = c.args.calls.now in
    let i = c.loop-answer.answer-index in
    let pos = c.loop-answer.pos in
    let before = c.args.out.now in
    let out = c.loop-answer.out in
    let n = c.turn-n.result.0 in
    let now = c.turn-n.new.out in
    let e = c.turn-n.ensures in
    let w = e.wrote in
    let fits = w.fits in
    let long = c.loop-answer.auto.out in
    let many = c.loop-answer.auto.answers in
    let inside = c.loop-answer-test.true in
    let after = c.next.new.self.rest.now in
    let head : drop i calls ≡ call ∷ after = sym inv.left ∙ c.in-Some.ensures.steps in
    let few : i < length calls = (let l : length calls - i ≡ suc (length after) = sym (length-drop i calls) ∙ ap length head in omega arith) in
    let at : call ≡ get_or calls i call = ap (λ (z : List Call). get_or z 0 call) (sym head ∙ drop_more calls i call few) in
    let more : List ℕ = take n (drop pos now) in
    let does = g.D.Driven.does (g.C.Cipher.meaning c.args.c.now) in
    let written : length (take pos out) ≡ pos = length-take-le pos out (omega arith) in
    let left : length out - pos ≡ length before - length (take pos out) = omega arith in
    let under = subst (λ (m : Meaning). g.D.Driven.does m c.loop-answer.driven call (min (room_of call) (length out - pos)) c.turn-n.new.driven more c.turn-n.result.1) inv.same e.does in
    let one = subst (λ (k : ℕ). does c.loop-answer.driven call (min (room_of call) k) c.turn-n.new.driven more c.turn-n.result.1) left under in
    let run = run_at_more does call c.turn-n.result.1 c.args.driven.now c.loop-answer.driven c.turn-n.new.driven (length before) calls c.loop-answer.answers i (take pos out) more few (omega arith) at inv.run one in
    let all : take pos out ++ more ≡ take (pos + n) now = sym (take-add pos n now ∙ ap (λ (z : List ℕ). z ++ more) w.before) in
    record {
      same = e.same ∙ inv.same;
      within = within_more pos (pos + n) before out now inv.within long w;
      behind = drop-set-lt (i + 1) c.loop-answer.answers i c.turn-n.result.1 (omega arith) ∙ sym (drop-drop 1 i c.loop-answer.answers) ∙ ap (drop 1) inv.behind ∙ drop-drop 1 i c.args.answers.now;
      left = sym (ap (drop 1) head) ∙ drop-drop 1 i calls;
      made = omega arith;
      run = subst (Run does c.args.driven.now (length before) (take (i + 1) calls) _ c.turn-n.new.driven) all run;
    }
