use Rattle.std.proofs.Common.{◌≡◌, false, ltb, arith}
use Rattle.std.proofs.lemmas.Bool.Decides.{nat_tests}
use Rattle.elmd.specs.Refusals.{mark_number}
use Rattle.payfile.specs.Layout.{heading_size, stream_size, mark_in}
use Rattle.payfile.proofs.Marks.{mark_back}
use Rattle.payfile.proofs.read.read_front.Goals as goal
use Rattle.payfile.proofs.read.read_front.Goals.{In_ok-mark}

marked : (c : In_ok-mark) → (ltb 1 (mark_in c.args.file.now) ≡ false) × (mark_number c.in_ok-mark.mark ≡ mark_in c.args.file.now)
marked c = mark_back (mark_in c.args.file.now) c.in_ok-mark.mark c.try_from.result c.map_err.result _ c.try_from.ensures c.map_err.ensures.cases c.map_err.ensures.variant c.in_ok-mark.was

pub returns-then-heading-gt-HEADING_MOST-clause-answer : goal.returns-then-heading-gt-HEADING_MOST-clause-answer
unfolding heading_size
returns-then-heading-gt-HEADING_MOST-clause-answer c =
    let h = c.number_at-heading.ensures.value in
    let m = (marked (goal.at.returns-then-heading-gt-HEADING_MOST-clause-answer c).In_ok-mark).0 in
    grind (arith, nat_tests)

pub returns-then-file-heading-clause-answer : goal.returns-then-file-heading-clause-answer
unfolding heading_size stream_size
returns-then-file-heading-clause-answer c =
    let h = c.number_at-heading.ensures.value in
    let s = c.number_at-stream.ensures.value in
    let m = (marked (goal.at.returns-then-file-heading-clause-answer c).In_ok-mark).0 in
    grind (arith, nat_tests)

pub returns : goal.returns
unfolding heading_size stream_size
returns c =
    let h = c.number_at-heading.ensures.value in
    let s = c.number_at-stream.ensures.value in
    let m = marked (goal.at.returns c).In_ok-mark in
    let fits = c.if-file-heading.false in
    record {
      answer = grind (arith, nat_tests);
      front = record { nonce_is = c.field.ensures; settings_is = c.field-2.ensures; mark_is = m.1; heading_is = h; stream_is = s; size = fits; heading_most = omega arith };
    }
