use Rattle.std.proofs.Common.{◌≡◌, ℕ, ◌*◌, ◌^◌, ◌<◌, [], length, Ok, sym, refl, ap, ◌∙◌, subst, zero-mul, arith, rules}
use Rattle.block.specs.Value.{value_lt}
use Rattle.cipher.specs.Meaning.{Meaning, Lawful}
use Rattle.elmd.specs.Refusals.{mark_number}
use Rattle.elmd.specs.Stream.{t_of}
use Rattle.elmd.specs.Opening.{released}
use Rattle.elmd.specs.Laws.{Sound}
use Rattle.elmd.proofs.Injective.{injectivity}
use Rattle.opening.specs.Opener.{Begun, Begins}
use Rattle.rehearsal.specs.OpenLaw.{At, start}
use Rattle.rehearsal.proofs.OpenRuns.{open_run}
use Rattle.rehearsal.proofs.Spoiling.{run_right, start_right}
use Rattle.rehearsal.proofs.open_side.drive_opener.Goals as goal

pub returns-clause-refused : goal.returns-clause-refused
returns-clause-refused g c =
    let was : c.begin.result ≡ Ok tt = search rules in
    let begun = subst (λ r. Begun c.args.h c.args.stream_length c.args.mark c.unused-opener.result r c.begin.new.place) was c.begin.ensures.begun in
    (begun.0, λ u es. (begun.2 u es).possible)

pub returns-clause-law : goal.returns-clause-law
returns-clause-law g c =
    let was : c.begin.result ≡ Ok tt = search rules in
    let begun = subst (λ r. Begun c.args.h c.args.stream_length c.args.mark c.unused-opener.result r c.begin.new.place) was c.begin.ensures.begun in
    let opens = subst (λ r. Begins c.args.h r c.begin.new.place) was c.begin.ensures.opens in
    let k = mark_number c.args.mark in
    let S = c.args.stream_length in
    let o = c.begin.new.place in
    let st = begun.1 in
    let room = length c.args.part.now.out.now in
    λ u ec cl.
    let sound : Sound u = record { lawful = subst (λ (m : Meaning). Lawful m) (sym ec) (g.met.C.Cipher.lawful c.args.c.now); iv_lt = (let b = value_lt c.args.h.iv in subst (λ (n : ℕ). n < 2 ^ 128) cl.started b) } in
    let none : [] ≡ released u [] (o.state.checks * t_of u) = ap (released u []) (sym (zero-mul (t_of u)) ∙ ap (λ (n : ℕ). n * t_of u) (sym st.unchecked)) in
    let at : At u S k start o = record {
      stands = (opens u cl, st.sized, ap mark_number st.marked, none);
      keeps = λ m hm bg. (m, refl);
    } in
    let r = open_run _ u S k room ec sound _ _ _ o start room _ (omega arith) at c.drive-n.ensures.run in
    record { end = r.0; answered = r.1; let_out_is = r.3; released = r.2.keeps; rightly_spoiled = run_right u S k start room _ _ r.0 (start_right u S k) r.1; one = λ m m' hm hm' es. injectivity u sound S k m m' hm hm' es }
