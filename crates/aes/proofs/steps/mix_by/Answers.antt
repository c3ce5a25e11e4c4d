use Rattle.aes.specs.Fips197.{mix_by}
use Rattle.aes.proofs.steps.mix_by.Goals as goal

pub returns : goal.returns
unfolding mix_by
returns c =
    simp (c.join.ensures, c.times.ensures, c.times-2.ensures, c.times-3.ensures, c.times-4.ensures, c.word_at.ensures, c.word_at-2.ensures, c.word_at-3.ensures, c.word_at-4.ensures)
