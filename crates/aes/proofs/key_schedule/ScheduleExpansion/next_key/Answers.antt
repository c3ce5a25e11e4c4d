use Rattle.aes.specs.Fips197.{next_key}
use Rattle.aes.proofs.key_schedule.ScheduleExpansion.next_key.Goals as goal

pub returns : goal.returns
unfolding next_key
returns c =
    simp (c.join.ensures, c.xor_word-d.ensures, c.xor_word-c.ensures, c.xor_word-b.ensures, c.xor_word-a.ensures, c.turn.ensures, c.word_at.ensures, c.word_at-2.ensures, c.word_at-3.ensures, c.word_at-4.ensures)
