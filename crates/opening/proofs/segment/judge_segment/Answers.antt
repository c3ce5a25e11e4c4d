use Rattle.std.proofs.Common.{◌≡◌, ℕ, suc, ◌+◌, ◌*◌, ◌≤◌, List, ◌++◌, length, take, drop, sym, ap, ◌∙◌, suc-mul, arith}
use Rattle.std.proofs.lemmas.List.{length-take-le, take_at}
use Rattle.std.proofs.lemmas.Result.{err_from_is_err_and}
use Rattle.block.specs.Value.{value}
use Rattle.elmd.specs.Stream.{Frame, t_of}
use Rattle.elmd.specs.Opening.{released}
use Rattle.opening.proofs.Runs.{front_there, opened_front, check_there}
use Rattle.opening.proofs.segment.judge_segment.Goals as goal

check_place : (u : Frame) (i j t : ℕ) → t_of u ≡ t → i ≡ j * t_of u → i + t ≡ suc j * t_of u
check_place u i j t et ei = let m = suc-mul j (t_of u) in omega arith

pub returns-in_err-s-clause-judged : goal.returns-in_err-s-clause-judged
returns-in_err-s-clause-judged g c =
    let held = c.args.held.now in
    let t = c.args.t in
    let run = c.open_run-s.ensures in
    let room = c.requires.1.1.0 in
    let front : length (take (16 * t) held) ≡ 16 * t = length-take-le (16 * t) held (omega arith) in
    let size : length c.open_run-s.new.held ≡ 16 * t = c.open_run-s.auto.held ∙ front in
    let p = err_from_is_err_and c.from_residual.result c.from_residual.ensures.1 in
    λ u st i j ec et ei th r.
    let few : t ≤ t_of u = omega arith in
    let ran = run.runs u st i j t ec ei few front (front_there held _ st i j t size (16 * t + 16) (omega arith) th) r in
    rw p.1 (c.in_err-s.ensures.passes u st (i + t) j (ec ∙ sym run.same) (check_place u i j t et ei) (check_there held _ st i j t size (value c.load-check.result) th room c.load-check.ensures) ran.reads)

pub returns-clause-judged : goal.returns-clause-judged
returns-clause-judged g c =
    let held = c.args.held.now in
    let t = c.args.t in
    let run = c.open_run-s.ensures in
    let room = c.requires.1.1.0 in
    let front : length (take (16 * t) held) ≡ 16 * t = length-take-le (16 * t) held (omega arith) in
    let size : length c.open_run-s.new.held ≡ 16 * t = c.open_run-s.auto.held ∙ front in
    λ u st i j ec et ei th r.
    let few : t ≤ t_of u = omega arith in
    let ran = run.runs u st i j t ec ei few front (front_there held _ st i j t size (16 * t + 16) (omega arith) th) r in
    let pass = c.in_ok-s.ensures.passes u st (i + t) j (ec ∙ sym run.same) (check_place u i j t et ei) (check_there held _ st i j t size (value c.load-check.result) th room c.load-check.ensures) ran.reads in
    let plain : c.copy_from_slice.new.self ≡ c.open_run-s.new.held = c.copy_from_slice.ensures.after ∙ opened_front held _ st i j t size in
    record {
      reads = pass.0;
      written = ran.written ∙ ap (λ (z : List ℕ). released u st i ++ z) (sym (take_at c.copy_from_slice.new.self (drop (16 * t) c.args.out.now) (16 * t) (ap length plain ∙ size) ∙ plain));
      checked = pass.1;
    }
