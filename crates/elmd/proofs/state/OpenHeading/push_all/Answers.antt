use Rattle.std.proofs.Common.{◌≡◌, ℕ, ◌+◌, List, [], ◌∷◌, length, get_or, take, sym, refl, ap, ◌∙◌, subst, arith}
use Rattle.std.proofs.lemmas.List.{take_more, take_all}
use Rattle.elmd.specs.Heading.{more, Opens}
use Rattle.elmd.proofs.Heads.{more_more, more_none}
use Rattle.elmd.proofs.state.OpenHeading.push_all.Goals as goal

pub loop-b-init : goal.loop-b-init
loop-b-init g c = (refl, record { settings_kept = refl; base_kept = refl; counted = omega arith }, λ u m o. more_none u c.args.self.now o)

pub loop-b-preserved : goal.loop-b-preserved
loop-b-preserved g c =
    let inv = c.loop-b.invariant in
    let i = c.loop-b.b-index in
    let piece = c.args.piece.now in
    let e = take_more piece i 0 (omega arith) in (
      cc,
      record { settings_kept = cc; base_kept = cc; counted = omega (arith, c.push.ensures.carried.counted, inv.1.counted) },
      λ u m o.
          let now = c.push.ensures.grows (more u (take i piece)) (m ∙ sym inv.0) (inv.2 u m o) in
          subst (λ (z : List ℕ). Opens (more u z) c.push.new.self) (sym e) (more_more u (take i piece) (get_or piece i 0 ∷ []) c.push.new.self now),
    )

pub returns : goal.returns
returns g c =
    let inv = c.loop-b.invariant in
    let piece = c.args.piece.now in
    let e : c.loop-b.b-index ≡ length piece = omega arith in
    let all : take c.loop-b.b-index piece ≡ piece = take_all c.loop-b.b-index piece (omega arith) in
    record {
      carried = record { settings_kept = inv.1.settings_kept; base_kept = inv.1.base_kept; counted = inv.1.counted ∙ ap (λ (n : ℕ). c.args.self.now.len + n) e };
      grows = λ u m o. subst (λ (z : List ℕ). Opens (more u z) c.loop-b.self) all (inv.2 u m o);
      same = inv.0;
    }
