use Rattle.std.proofs.Common.{◌≡◌, ℕ, pred, ◌+◌, ◌*◌, ◌/◌, ◌^◌, ◌<◌, ◌≤◌, [], sym, refl, ap, ◌∙◌, subst, zero-mul, arith}
use Rattle.block.specs.Value.{value, value_lt}
use Rattle.elmd.specs.declared.settings.Settings.{Settings}
use Rattle.elmd.specs.Settings.{settings_bytes}
use Rattle.elmd.specs.Stream.{t_of}
use Rattle.elmd.proofs.Counts.{interval_is}
use Rattle.opening.proofs.Passing.{first_reads}
use Rattle.opening.proofs.Standings.{plain_frame}
use Rattle.opening.proofs.Openings.{reads_start}
use Rattle.opening.proofs.place.Opener.begin.Goals as goal

pub invariant_of-place : goal.invariant_of-place
invariant_of-place c =
    let s = c.settings-settings.result in
    let u = plain_frame s in
    let laid = c.in-Ok.ensures u refl in
    let t : 1 ≤ s.interval = (let z = c.if-settings-eq0.false in omega (arith, z)) in
    let k = c.new-place.ensures.passed in
    let m : c.new-place.result.checks * (s.interval + 1) ≡ 0 = ap (λ (n : ℕ). n * (s.interval + 1)) k ∙ zero-mul (s.interval + 1) in record {
      lies = (laid.some, laid.most, laid.h_is ∙ ap (λ (n : ℕ). pred c.in-Ok.shape.blocks / n) (interval_is u s refl), laid.size);
      tagged = (laid.tag_some, laid.tag_most, t);
      stands = (omega arith, omega arith);
      within = (omega arith, λ _. omega arith);
    }

pub returns : goal.returns
returns c =
    let s = c.settings-settings.result in
    let parts = c.into_parts.ensures in
    let es : s ≡ c.args.h.settings = c.settings-settings.ensures in
    let t : 1 ≤ s.interval = (let z = c.if-settings-eq0.false in omega (arith, z)) in
    record {
      begun = (
        subst (λ (x : Settings). 1 ≤ x.interval) es t,
        record { filling = refl; chosen = es; sized = refl; marked = refl; none = refl; unchecked = c.new-place.ensures.passed },
        λ u e. c.in-Ok.ensures u (ap settings_bytes es ∙ e),
      );
      opens = λ u cl.
          let set : settings_bytes s ≡ u.settings = ap settings_bytes es ∙ cl.chosen in
          let bas = ap (λ q. value q.1) parts ∙ cl.based in
          let ivs = ap (λ q. value q.2) parts ∙ cl.started in
          let first = first_reads u [] c.into_parts.result.1 c.into_parts.result.2 _ bas ivs c.new-place.ensures in
          record {
            filling = refl;
            chosen = set;
            counted = refl;
            bytes = tt;
            started = subst (λ (n : ℕ). n < 2 ^ 128) ivs (value_lt c.into_parts.result.2);
            reads = reads_start u _ c.new-place.ensures.passed first;
            checked = λ k p h. absurd (let z = c.new-place.ensures.passed in omega arith);
            holds = sym (Rattle.std.proofs.lemmas.List.drop_all (16 * (c.new-place.result.checks * t_of u + c.new-place.result.checks)) [] (omega arith));
            laid = c.in-Ok.ensures u set;
          };
    }
