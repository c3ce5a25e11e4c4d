use Rattle.std.proofs.Common.{◌≡◌, ℕ, pred, ◌*◌, length, replicate, Ok, Err, sym, refl, ap, ◌∙◌, subst, add-zero, div-le_self, arith, rules}
use Rattle.cipher.specs.Meaning.{Meaning, Lawful}
use Rattle.elmd.specs.declared.refusal.Refusal.TheVariants as why
use Rattle.elmd.specs.Stream.{t_of}
use Rattle.opening.proofs.Standings.{blocks_low, blocks_high, full_fill, fill_small}
use Rattle.opening.proofs.Openings.{rest_there, reads_here, right_back, right_is, opened_is}
use Rattle.opening.proofs.Messages.{end_told}
use Rattle.opening.proofs.Calls.{no_refusal, finish_open}
use Rattle.opening.proofs.place.Opener.finish.Goals as goal

pub overflow_sub-n : goal.overflow_sub-n
overflow_sub-n g c = let a = blocks_low c.args.self.now in rw c.from-t.ensures (omega arith)

pub overflow_sub-n-2 : goal.overflow_sub-n-2
overflow_sub-n-2 g c = let a = blocks_low c.args.self.now in let b = c.args.self.now.lies.0 in rw c.from-t.ensures (omega arith)

pub judge_rest-requires : goal.judge_rest-requires
judge_rest-requires g c =
    let o = c.args.self.now in
    let f = finish_open o (length c.args.out.now) c.in_ok-admit.ensures in
    let f0 = f.0 in
    let f1 = f.1 in
    let a = blocks_low o in
    let b = blocks_high o in
    let fill = full_fill o f0 in
    let small = fill_small o in
    let d = div-le_self (pred o.shape.blocks) o.settings.interval in
    let hq = o.lies.2 in
    let most = o.lies.1 in
    let some = o.lies.0 in
    let j = o.stands.0 in
    let pos = o.tagged.2 in
    let size : length o.held ≡ 2048 = search rules in
    rw c.from-t.ensures (omega arith, (o.tagged.1, (omega arith, omega arith)))

pub returns-in-Some : goal.returns-in-Some
returns-in-Some g c =
    let o = c.args.self.now in
    let f = finish_open o (length c.args.out.now) c.in_ok-admit.ensures in
    let k = c.in-Some.k in
    let e = c.in-Some.ensures in
    let size : length o.held ≡ 2048 = search rules in
    let w = rw c.from-t.ensures at e.wrote in
    let judged = rw c.from-t.ensures at e.judged in
    let w0 = w.0 in
    let w1 = w.1 in
    let a = blocks_low o in
    let some = o.lies.0 in
    record {
      done = record {
        refused = λ y q. absurd (no_refusal _ y c.in_ok-admit.ensures q);
        judged = λ _. (omega arith, omega arith, record { settings_kept = refl; shape_kept = refl; mark_kept = refl; size_kept = refl; counted = sym (add-zero o.taken) }, refl, w.2, e.wiped ∙ ap (λ (n : ℕ). replicate n 0) size);
      };
      means = λ u s ec ok none.
          let r = judged u s (o.state.checks * t_of u) o.state.checks ec ok.chosen refl (rest_there u s o ok f.0) (reads_here u s o ok f.0) in
          end_told u (subst (λ (m : Meaning). Lawful m) (sym ec) (g.met.C.Cipher.lawful c.args.c.now)) s o ok f.0 (Ok k) c.judge_rest.new.out
          (r.0, right_is u s o ok f.0 r.0 r.2.right, opened_is u s o ok f.0 r.0 k c.judge_rest.new.out r.1 r.2);
      finishes = λ u s ec ok none.
          let r = judged u s (o.state.checks * t_of u) o.state.checks ec ok.chosen refl (rest_there u s o ok f.0) (reads_here u s o ok f.0) in
          (r.0, right_is u s o ok f.0 r.0 r.2.right, opened_is u s o ok f.0 r.0 k c.judge_rest.new.out r.1 r.2);
      same = e.same;
    }

pub returns-in-None : goal.returns-in-None
returns-in-None g c =
    let o = c.args.self.now in
    let f = finish_open o (length c.args.out.now) c.in_ok-admit.ensures in
    let e = c.in-None.ensures in
    let judged = rw c.from-t.ensures at e.judged in
    let size : length o.held ≡ 2048 = search rules in
    record {
      done = record {
        refused = λ y q. absurd (no_refusal _ y c.in_ok-admit.ensures q);
        judged = λ _. (refl, record { settings_kept = refl; shape_kept = refl; mark_kept = refl; size_kept = refl; counted = sym (add-zero o.taken) }, refl, e.wiped ∙ ap (λ (n : ℕ). replicate n 0) size, e.wrote);
      };
      means = λ u s ec ok none.
          end_told u (subst (λ (m : Meaning). Lawful m) (sym ec) (g.met.C.Cipher.lawful c.args.c.now)) s o ok f.0 (Err why.BadTag) c.judge_rest.new.out
          (λ q x. judged u s (o.state.checks * t_of u) o.state.checks ec ok.chosen refl (rest_there u s o ok f.0) (reads_here u s o ok f.0) q (right_back u s o ok f.0 q x));
      finishes = λ u s ec ok none q x. judged u s (o.state.checks * t_of u) o.state.checks ec ok.chosen refl (rest_there u s o ok f.0) (reads_here u s o ok f.0) q (right_back u s o ok f.0 q x);
      same = e.same;
    }
