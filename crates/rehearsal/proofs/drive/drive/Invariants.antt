use Rattle.std.proofs.Common.{◌≡◌, ◌≤◌, length, take, drop}
use Rattle.rehearsal.specs.Calls.{Within, Run}
use Rattle.rehearsal.proofs.drive.drive.Given as goal

abbrev pub invariant-loop-answer : goal.invariant-loop-answer
invariant-loop-answer g l =
    let i = l.answer-index in
    record {
      same : g.C.Cipher.meaning l.c ≡ g.C.Cipher.meaning l.initial.c;
      within : Within l.pos l.initial.out l.out;
      behind : drop i l.answers ≡ drop i l.initial.answers;
      left : l.left.rest.now ≡ drop i l.calls;
      made : i ≤ length l.calls;
      run : Run (g.D.Driven.does (g.C.Cipher.meaning l.initial.c)) l.initial.driven (length l.initial.out) (take i l.calls) (take i l.answers) l.driven (take l.pos l.out);
    }
