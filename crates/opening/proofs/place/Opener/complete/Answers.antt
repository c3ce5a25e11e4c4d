use Rattle.std.proofs.Common.{◌≡◌, ℕ, ◌+◌, ◌-◌, ◌*◌, ◌<◌, ◌≤◌, ◌++◌, length, replicate, sym, refl, ap, ◌∙◌, arith, rules}
use mir.Facts.{Fits-lt-pow}
use Rattle.std.proofs.ByRecursion.{All-from_get_or}
use Rattle.std.proofs.lemmas.List.{drop-drop}
use Rattle.elmd.specs.Stream.{t_of}
use Rattle.opening.proofs.Standings.{end_next, end_le, done_count}
use Rattle.opening.proofs.Openings.{t_is, reads_behind, counted_more, bytes_more, there, reads_next, checked_next, written_next, holds_next}
use Rattle.opening.proofs.place.Opener.complete.Goals as goal

pub invariant_of-self : goal.invariant_of-self
invariant_of-self g c =
    let o = c.args.self.now in
    let lt = c.requires.0 in
    let e = c.requires.1.0 in
    let le = end_le o in
    let n : c.in-Ok.next.checks ≡ o.state.checks + 1 = c.in-Ok.ensures.counts in record {
      lies = o.lies;
      tagged = o.tagged;
      stands = (omega arith, done_count o (length c.args.piece.now) (c.in-Ok.next.checks) lt e n);
      within = (omega arith, λ _. omega arith);
    }

pub invariant_of-self-in-Err : goal.invariant_of-self-in-Err
invariant_of-self-in-Err g c =
    let o = c.args.self.now in
    let lt = c.requires.0 in
    let e = c.requires.1.0 in
    let le = end_le o in
    let n : o.state.checks + 1 ≡ o.state.checks + 1 = refl in record {
      lies = o.lies;
      tagged = o.tagged;
      stands = (omega arith, done_count o (length c.args.piece.now) (o.state.checks + 1) lt e n);
      within = (omega arith, λ _. omega arith);
    }

pub returns-in-Ok-clause-judged : goal.returns-in-Ok-clause-judged
returns-in-Ok-clause-judged g c =
    let size : length c.judge_segment-judged.new.held ≡ 2048 = search rules in rw c.from-t.ensures (
      refl,
      record { settings_kept = refl; shape_kept = refl; mark_kept = refl; size_kept = refl; counted = refl },
      refl,
      c.in-Ok.ensures.counts,
      rw c.from-t.ensures at c.in-Ok.ensures.wrote,
      c.judge_segment-judged.ensures.wiped ∙ ap (λ (n : ℕ). replicate n 0) (sym c.judge_segment-judged.auto.held ∙ size),
    )

pub returns-in-Ok-clause-lets : goal.returns-in-Ok-clause-lets
returns-in-Ok-clause-lets g c = λ u s ec ok.
    let o = c.args.self.now in
    let x = c.args.piece.now in
    let j = o.state.checks in
    let long : o.fill ≤ length o.held = search rules in
    let more : o.fill + length x - o.fill ≡ length x = omega arith in
    let en = end_next o c.requires.0 in
    let cn = o.stands.1 in
    let e = c.requires.1.0 in
    let full : o.fill + length x ≡ 16 * o.settings.interval + 16 = omega arith in
    let n = c.in-Ok.ensures.counts in
    let r = c.in-Ok.next in
    let seg = (rw c.from-t.ensures at c.in-Ok.ensures.judged) u (s ++ x) (j * t_of u) j ec (t_is u s x o ok) refl (there u s x o ok full _ long (simp (c.copy_from_slice.ensures.after, more, drop-drop))) (reads_behind u s x o ok) in
    let bx = All-from_get_or (λ (k : ℕ). k < 256) x 0 (λ i h. Fits-lt-pow (c.type_inv.piece i)) in (
      record {
        filling = ok.filling;
        chosen = ok.chosen;
        counted = counted_more u s x o ok;
        bytes = bytes_more u s x o ok bx;
        started = ok.started;
        reads = reads_next u s x o ok full r n seg.reads;
        checked = checked_next u s x o ok full r n seg.checked;
        holds = holds_next u s x o ok full r n;
        laid = ok.laid;
      },
      rw c.from-t.ensures (written_next u s x o ok full r n _ seg.written),
    )

pub returns-in-Err-clause-judged : goal.returns-in-Err-clause-judged
returns-in-Err-clause-judged g c =
    let size : length c.judge_segment-judged.new.held ≡ 2048 = search rules in (
      c.in-Err.ensures.counts,
      record { settings_kept = refl; shape_kept = refl; mark_kept = refl; size_kept = refl; counted = refl },
      refl,
      c.judge_segment-judged.ensures.wiped ∙ ap (λ (n : ℕ). replicate n 0) (sym c.judge_segment-judged.auto.held ∙ size),
      c.in-Err.ensures.wrote,
    )

pub returns-in-Err-clause-lets : goal.returns-in-Err-clause-lets
returns-in-Err-clause-lets g c = λ u s ec ok chk.
    let o = c.args.self.now in
    let x = c.args.piece.now in
    let j = o.state.checks in
    let long : o.fill ≤ length o.held = search rules in
    let more : o.fill + length x - o.fill ≡ length x = omega arith in
    let en = end_next o c.requires.0 in
    let cn = o.stands.1 in
    let e = c.requires.1.0 in
    let full : o.fill + length x ≡ 16 * o.settings.interval + 16 = omega arith in
    (rw c.from-t.ensures at c.in-Err.ensures.judged) u (s ++ x) (j * t_of u) j ec (t_is u s x o ok) refl (there u s x o ok full _ long (simp (c.copy_from_slice.ensures.after, more, drop-drop))) (reads_behind u s x o ok) chk
