use Rattle.std.proofs.Common.{ℕ, ◌*◌, ◌<◌, List, ◌++◌, length, take, sym, refl, ap, ◌∙◌, subst}
use mir.Facts.{Fits-lt-pow}
use Rattle.std.proofs.lemmas.List.{append-nil}
use Rattle.std.proofs.lemmas.Bool.{true≢false}
use Rattle.std.proofs.ByRecursion.{All-take, All-from_get_or}
use Rattle.cipher.specs.Meaning.{Meaning, Lawful}
use Rattle.elmd.specs.Stream.{t_of}
use Rattle.elmd.specs.Opening.{released}
use Rattle.opening.specs.declared.state.Reading.{Reading}
use Rattle.opening.specs.Opener.{took, Opening, Lets}
use Rattle.opening.proofs.Calls.{took_len, put_judged, put_more, completes_below, completes_all}
use Rattle.opening.proofs.Messages.{put_told}
use Rattle.opening.proofs.place.Opener.put.Goals as goal

pub returns-then-completes : goal.returns-then-completes
returns-then-completes g c =
    let o = c.args.self.now in
    let x = c.args.piece.now in
    let tk = took_len o x c.min-n.result c.next_end.result c.min-n.ensures c.next_end.ensures in
    record {
      done = put_judged o (length x) _ c.args.out.now c.complete.result c.complete.new.self c.complete.new.out c.in_ok-admit.ensures (sym c.completes.ensures ∙ c.if-completes.true) tk.1 c.complete.ensures.judged;
      means = λ u s ec ok none t.
          let z = take (took o (length x)) x in
          let bx = All-take (λ (n : ℕ). n < 256) (took o (length x)) x (All-from_get_or (λ (n : ℕ). n < 256) x 0 (λ i h. Fits-lt-pow (c.type_inv.piece i))) in
          put_told u (subst (λ (m : Meaning). Lawful m) (sym ec) (g.met.C.Cipher.lawful c.args.c.now)) s o ok z bx (completes_below o (length x) t) (completes_all o x t)
          _ c.args.out.now c.complete.result c.complete.new.self c.complete.new.out c.complete.ensures.judged
          (subst (λ (y : List ℕ). Lets u o (s ++ y) c.complete.result c.complete.new.self c.complete.new.out) tk.0 (c.complete.ensures.lets u s ec ok));
      puts = λ u s ec ok none. subst (λ (z : List ℕ). Lets u o (s ++ z) c.complete.result c.complete.new.self c.complete.new.out) tk.0 (c.complete.ensures.lets u s ec ok);
      same = c.complete.ensures.same;
    }

pub returns : goal.returns
returns g c =
    let o = c.args.self.now in
    let x = c.args.piece.now in
    let o' = c.take_in.new.self in
    let tk = took_len o x c.min-n.result c.next_end.result c.min-n.ensures c.next_end.ensures in
    let kept = c.take_in.ensures.kept in
    record {
      done = put_more o (length x) c.min-n.result c.args.out.now _ o' c.in_ok-admit.ensures (sym c.completes.ensures ∙ c.if-completes.false) tk.2 tk.1 c.take_in.ensures.moved kept.0 kept.1;
      means = λ u s ec ok none t. absurd (true≢false (sym t ∙ sym c.completes.ensures ∙ c.if-completes.false));
      puts = λ u s ec ok none. (
        subst (λ (z : List ℕ). Opening u (s ++ z) o') tk.0 (c.take_in.ensures.opens u s ok),
        ap (λ (r : Reading). released u (s ++ take (took o (length x)) x) (r.checks * t_of u)) kept.1 ∙ sym (append-nil (released u (s ++ take (took o (length x)) x) (o.state.checks * t_of u))),
      );
      same = refl;
    }
