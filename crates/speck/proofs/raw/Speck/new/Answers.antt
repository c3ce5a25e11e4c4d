use Rattle.std.proofs.Common.{ℕ, ◌≢◌, refl, ap, ◌∙◌, add-one, arith, get_or-set_other, get_or-set_same, below_more}
use Rattle.speck.specs.Speck.{key_words, rounds}
use Rattle.speck.proofs.raw.Speck.new.Goals as goal

pub loop-i-init : goal.loop-i-init
unfolding key_words rounds
loop-i-init c = record { words = refl; keys = λ j h. absurd (omega arith) }

pub loop-i-preserved : goal.loop-i-preserved
unfolding key_words rounds
loop-i-preserved c =
    let i = c.loop-i.i in
    let keys = c.loop-i.round_key-items in
    let inv = c.loop-i.invariant in
    record {
      words = rw add-one (cc);
      keys = below_more _ _
          (λ j h. let ne : j ≢ i = omega arith in get_or-set_other keys i j _ 0 ne ∙ inv.keys j h)
          (get_or-set_same keys i _ 0 (omega arith) ∙ ap (λ (s : ℕ × ℕ). s.1) inv.words);
    }
