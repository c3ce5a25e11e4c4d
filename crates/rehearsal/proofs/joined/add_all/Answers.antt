use Rattle.std.proofs.Common.{◌≡◌, ℕ, ◌+◌, List, [], ◌++◌, length, get_or, take, sym, ap, ◌∙◌, subst, arith, rules, length-append, Bor}
use Rattle.std.proofs.lemmas.List.{take_all}
use Rattle.elmd.specs.Heading.{more, Opens}
use Rattle.elmd.proofs.Heads.{more_more}
use Rattle.rehearsal.specs.Joined.{joined_bytes}
use Rattle.rehearsal.proofs.Joining.{joined_more, joined_fits, add_refused, add_fits}
use Rattle.rehearsal.proofs.joined.add_all.Goals as goal

abbrev none : Bor (List ℕ)
none = record { ref_ptr = (0, 0); now = [] }

-- the bytes of one piece more
size_more : (ps : List (Bor (List ℕ))) (i : ℕ) → joined_bytes (take (i + 1) ps) ≡ joined_bytes (take i ps) ++ (get_or ps i none).now → length (joined_bytes (take (i + 1) ps)) ≡ length (joined_bytes (take i ps)) + length (get_or ps i none).now
size_more ps i e = ap length e ∙ length-append (joined_bytes (take i ps)) (get_or ps i none).now

pub returns-in_err-add-clause-answer : goal.returns-in_err-add-clause-answer
returns-in_err-add-clause-answer g c =
    let inv = c.loop-piece.invariant in
    let i = c.loop-piece.piece-index in
    let ps = c.args.pieces.now in
    let h = c.args.h.now in
    let n = size_more ps i (joined_more ps i none c.loop-piece-test.true) in
    let f = joined_fits ps (i + 1) in
    let l = inv.counted in
    let whole = add_refused c.loop-piece.h.len (length (get_or ps i none).now) h.len (length (joined_bytes ps)) _ c.in_err-add.ensures.answer (omega arith) in
    search rules

pub loop-piece-preserved : goal.loop-piece-preserved
loop-piece-preserved g c =
    let inv = c.loop-piece.invariant in
    let i = c.loop-piece.piece-index in
    let ps = c.args.pieces.now in
    let piece = (get_or ps i none).now in
    let e = joined_more ps i none c.loop-piece-test.true in
    let n = size_more ps i e in
    let l = inv.counted in
    let k = c.in_ok-add.ensures.effect.counted in
    record {
      same = c.add.ensures.same ∙ inv.same;
      counted = omega arith;
      grows = λ u m o.
          let grown = c.in_ok-add.ensures.joined (more u (joined_bytes (take i ps))) (m ∙ sym inv.same) (inv.grows u m o) in
          subst (λ (z : List ℕ). Opens (more u z) c.add.new.self) (sym e) (more_more u (joined_bytes (take i ps)) piece c.add.new.self grown);
    }

pub returns-clause-answer : goal.returns-clause-answer
returns-clause-answer g c =
    let ps = c.args.pieces.now in
    let all : take c.loop-piece.piece-index ps ≡ ps = take_all c.loop-piece.piece-index ps (omega arith) in
    let n = ap (λ (z : List (Bor (List ℕ))). length (joined_bytes z)) all in
    let l = c.loop-piece.invariant.counted in
    let fits = c.loop-piece.h.ok in
    add_fits c.args.h.now.len (length (joined_bytes ps)) (omega arith)

pub returns-clause-joined : goal.returns-clause-joined
returns-clause-joined g c =
    let ps = c.args.pieces.now in
    let all : take c.loop-piece.piece-index ps ≡ ps = take_all c.loop-piece.piece-index ps (omega arith) in
    λ u m o. subst (λ (z : List (Bor (List ℕ))). Opens (more u (joined_bytes z)) c.loop-piece.h) all (c.loop-piece.invariant.grows u m o)
