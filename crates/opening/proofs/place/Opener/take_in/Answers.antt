use Rattle.std.proofs.Common.{◌≡◌, ℕ, ◌+◌, ◌-◌, ◌<◌, ◌≤◌, length, refl, arith, rules}
use Rattle.std.proofs.lemmas.List.{drop-drop}
use mir.Facts.{Fits-lt-pow}
use Rattle.std.proofs.ByRecursion.{All-from_get_or}
use Rattle.opening.proofs.Standings.{end_next, end_le}
use Rattle.opening.proofs.Openings.{reads_more, checked_more, counted_more, bytes_more, holds_more}
use Rattle.opening.proofs.place.Opener.take_in.Goals as goal

pub invariant_of-self : goal.invariant_of-self
invariant_of-self c =
    let o = c.args.self.now in
    let cnt = o.stands.1 in
    let le = end_le o in
    let a = c.requires.0 in record {
      lies = o.lies;
      tagged = o.tagged;
      stands = (o.stands.0, omega arith);
      within = (omega arith, λ lt. let e = end_next o lt in let b = c.requires.1 lt in omega arith);
    }

pub returns : goal.returns
returns c =
    let o = c.args.self.now in
    let x = c.args.piece.now in
    let bx = All-from_get_or (λ (n : ℕ). n < 256) x 0 (λ i h. Fits-lt-pow (c.type_inv.piece i)) in
    let long : o.fill ≤ length o.held = search rules in
    let more : o.fill + length x - o.fill ≡ length x = omega arith in
    record {
      moved = record { settings_kept = refl; shape_kept = refl; mark_kept = refl; size_kept = refl; counted = refl };
      kept = (refl, refl);
      opens = λ u s ok. record {
        filling = ok.filling;
        chosen = ok.chosen;
        counted = counted_more u s x o ok;
        bytes = bytes_more u s x o ok bx;
        started = ok.started;
        reads = reads_more u s x o ok;
        checked = checked_more u s x o ok;
        holds = holds_more u s x o ok _ long (simp (c.copy_from_slice.ensures.after, more, drop-drop));
        laid = ok.laid;
      };
    }
