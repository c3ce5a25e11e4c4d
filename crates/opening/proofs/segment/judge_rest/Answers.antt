use Rattle.std.proofs.Common.{◌≡◌, ℕ, ◌+◌, ◌*◌, ◌<◌, List, ◌++◌, length, take, drop, sym, refl, ap, ◌∙◌, le_refl, append_assoc, arith, length-append, length-drop}
use Rattle.std.proofs.lemmas.List.{length-take-le, take_at, take-take}
use Rattle.block.specs.Value.{value}
use Rattle.block.specs.Bytes.{bytes_of}
use Rattle.elmd.specs.Stream.{t_of}
use Rattle.elmd.specs.Opening.{released}
use Rattle.elmd.proofs.Counts.{interval_is}
use Rattle.opening.specs.Segment.{There}
use Rattle.opening.proofs.Runs.{quo, reads_at, front_there, opened_front, end_there, last_front}
use Rattle.opening.proofs.segment.judge_rest.Goals as goal

-- the blocks before the end
blocks_there : (held st : List ℕ) (i j n tag : ℕ) → take (16 * n + 16 + tag) held ≡ drop (16 * (i + j)) st → There held st i j (16 * n)
blocks_there held st i j n tag th = sym (take-take (16 * n) (16 * n + 16 + tag) held (omega arith)) ∙ ap (take (16 * n)) th

pub returns-in_err-last-clause-judged : goal.returns-in_err-last-clause-judged
returns-in_err-last-clause-judged g c = rw c.from_residual.ensures (λ u st i j ec es ei th r q e.
    let held = c.args.held.now in
    let n = c.args.n in
    let o = c.args.outline in
    let run = c.open_run-s.ensures in
    let nt = c.requires.0 in
    let room = c.requires.1.1.0 in
    let front : length (take (16 * n) held) ≡ 16 * n = length-take-le (16 * n) held (omega arith) in
    let size : length c.open_run-s.new.held ≡ 16 * n = c.open_run-s.auto.held ∙ front in
    let et = interval_is u o.settings es in
    let few : n < t_of u = omega arith in
    let ran = run.runs u st i j n ec ei (omega arith) front (front_there held _ st i j n size (16 * n) (le_refl (16 * n)) (blocks_there held st i j n o.shape.tag th)) r in
    c.in_err-last.ensures.ends u st (i + n) (ec ∙ sym run.same) es (end_there held _ st i j n size o.shape.tag _ (quo u st i j n c.open_run-s.result ei few) th) (reads_at u st i j n c.open_run-s.result ei few ran.reads) q e)

pub returns-clause-judged : goal.returns-clause-judged
returns-clause-judged g c = λ u st i j ec es ei th r.
    let held = c.args.held.now in
    let n = c.args.n in
    let o = c.args.outline in
    let run = c.open_run-s.ensures in
    let nt = c.requires.0 in
    let room = c.requires.1.1.0 in
    let plain : List ℕ = c.open_run-s.new.held in
    let front : length (take (16 * n) held) ≡ 16 * n = length-take-le (16 * n) held (omega arith) in
    let size : length plain ≡ 16 * n = c.open_run-s.auto.held ∙ front in
    let et = interval_is u o.settings es in
    let few : n < t_of u = omega arith in
    let ran = run.runs u st i j n ec ei (omega arith) front (front_there held _ st i j n size (16 * n) (le_refl (16 * n)) (blocks_there held st i j n o.shape.tag th)) r in
    let x = c.in_ok-last.ensures.ends u st (i + n) (ec ∙ sym run.same) es (end_there held _ st i j n size o.shape.tag _ (quo u st i j n c.open_run-s.result ei few) th) (reads_at u st i j n c.open_run-s.result ei few ran.reads) in
    let q = c.in_ok-last.k in
    let v = value c.in_ok-last.last in
    let q16 = c.in_ok-last.ensures.held.most in
    let all : length (plain ++ drop (16 * n) held) ≡ length held = length-append plain (drop (16 * n) held) ∙ omega (arith, size, length-drop (16 * n) held) in
    let stored : take (16 * n + 16) c.store.new.out ≡ plain ++ bytes_of v = c.store.ensures.front (omega (arith, all)) ∙ ap (λ (z : List ℕ). z ++ bytes_of v) (opened_front held _ st i j n size) in
    let copied : c.copy_from_slice.new.self ≡ take (16 * n + q) c.store.new.out = c.copy_from_slice.ensures.after in
    let kept : length c.store.new.out ≡ length (plain ++ drop (16 * n) held) = c.store.auto.out in
    let long : length c.copy_from_slice.new.self ≡ 16 * n + q = ap length copied ∙ length-take-le (16 * n + q) c.store.new.out (omega (arith, all)) in
    let out' : List ℕ = c.copy_from_slice.new.self ++ drop (16 * n + q) c.args.out.now in
    let wrote = last_front c.store.new.out plain (bytes_of v) out' n q q16 size stored (take_at c.copy_from_slice.new.self (drop (16 * n + q) c.args.out.now) (16 * n + q) long ∙ copied) in (
      q,
      refl,
      record {
        right = x.0;
        written = ap (λ (z : List ℕ). released u st i ++ z) wrote ∙ sym (append_assoc (released u st i) plain (take q (bytes_of v)))
            ∙ ap (λ (z : List ℕ). z ++ take q (bytes_of v)) (sym ran.written)
            ∙ ap (λ (z : ℕ). released u st (i + n) ++ take q (bytes_of z)) x.1;
      },
    )
