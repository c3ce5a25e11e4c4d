use Rattle.std.proofs.Common.{◌≡◌, suc, ◌+◌, ◌/◌, [], ◌∷◌, length, refl, ap, arith, rules}
use Rattle.cipher.specs.Meaning.{base}
use Rattle.elmd.specs.Stream.{pow}
use Rattle.elmd.specs.Heading.{more, inner_head}
use Rattle.elmd.proofs.Heads.{inner_more, held_less, held_none, full_block, longer}
use Rattle.elmd.proofs.state.OpenHeading.push.Goals as goal

pub returns-then-fill-eq15 : goal.returns-then-fill-eq15
returns-then-fill-eq15 g c = record {
  carried = record { settings_kept = refl; base_kept = refl; counted = refl };
  grows = λ u m o.
      let h = c.args.self.now in
      let k = h.len in
      let b = c.args.b in
      let l : length h.pending ≡ 16 = search rules in
      let full = full_block u.heading h.pending k b o.size l o.held c.if-fill-eq15.true in
      let e : (k + 1) / 16 ≡ suc (k / 16) = omega arith in
      let s = o.size in
      let w = inner_more u (b ∷ []) (k / 16) (omega arith) in
      let i = ap (inner_head (more u (b ∷ []))) (ap suc e) in
      let p = ap (λ n. pow n (base u.cipher)) e in
      record {
        chosen = o.chosen;
        based = o.based;
        size = longer u.heading h.pending k b o.size l o.held;
        chained = cc;
        masked = cc;
        held = held_none u.heading h.pending k b o.size l o.held c.if-fill-eq15.true;
      };
  same = cc;
}

pub returns-else-fill-eq15 : goal.returns-else-fill-eq15
returns-else-fill-eq15 g c = record {
  carried = record { settings_kept = refl; base_kept = refl; counted = refl };
  grows = λ u m o.
      let h = c.args.self.now in
      let k = h.len in
      let b = c.args.b in
      let l : length h.pending ≡ 16 = search rules in
      let e : (k + 1) / 16 ≡ k / 16 = omega (arith, c.if-fill-eq15.false) in
      let s = o.size in
      let w = inner_more u (b ∷ []) (k / 16) (omega arith) in
      let i = ap (inner_head (more u (b ∷ []))) (ap suc e) in
      let p = ap (λ n. pow n (base u.cipher)) e in
      record {
        chosen = o.chosen;
        based = o.based;
        size = longer u.heading h.pending k b o.size l o.held;
        chained = cc;
        masked = cc;
        held = held_less u.heading h.pending k b o.size l o.held c.if-fill-eq15.false;
      };
  same = refl;
}
