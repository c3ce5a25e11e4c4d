use Rattle.std.proofs.Common.{◌≡◌, ℕ, suc, ◌-◌, ◌/◌, ◌%◌, take, sym, refl, ap, ◌∙◌, arith}
use Rattle.block.specs.Value.{value}
use Rattle.cipher.specs.Meaning.{Meaning}
use Rattle.elmd.specs.Heading.{last_link, inner_head}
use Rattle.elmd.proofs.Heads.{closed_whole, closed_short}
use Rattle.elmd.proofs.state.OpenHeading.close.Goals as goal

pub returns-then-fill-eq0 : goal.returns-then-fill-eq0
returns-then-fill-eq0 g c = record {
  kept = (refl, refl);
  stands = λ u m o. record { chosen = o.chosen; based = o.based; started = o.chained ∙ closed_whole u c.args.self.len o.size c.if-fill-eq0.true };
  same = refl;
}

pub returns : goal.returns
returns g c = record {
  kept = (refl, refl);
  stands = λ u m o.
      let s = closed_short u c.args.self.pending c.args.self.len o.size c.if-fill-eq0.false o.held in
      let p = c.args.self.pending in
      let f = c.args.self.len % 16 in
      let from : f - 0 ≡ f = omega arith in
      record {
        chosen = o.chosen;
        based = o.based;
        started = c.last_link-iv.ensures.value ∙ ap (λ (n : ℕ). last_link (g.C.Cipher.meaning c.args.c.now) (value c.args.self.chain) (value c.args.self.mask) (take n p)) from ∙ ap (λ (z : Meaning). last_link z (value c.args.self.chain) (value c.args.self.mask) (take f p)) (sym m)
            ∙ ap (λ (z : ℕ). last_link u.cipher z (value c.args.self.mask) (take f p)) o.chained
            ∙ ap (λ (z : ℕ). last_link u.cipher (inner_head u (suc (c.args.self.len / 16))) z (take f p)) o.masked ∙ s;
      };
  same = c.last_link-iv.ensures.same;
}
