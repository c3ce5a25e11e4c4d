use Rattle.std.proofs.Common.{◌≡◌, ℕ, ◌<◌, get_or}
use Rattle.speck.specs.Speck.{key_words, round_key}
use Rattle.speck.proofs.raw.Speck.new.Given as goal

abbrev pub invariant-loop-i : goal.invariant-loop-i
invariant-loop-i l = record {
  words : l.words ≡ key_words l.initial.words l.i;
  keys : (j : ℕ) → j < l.i → get_or l.round_key-items j 0 ≡ round_key l.initial.words j;
}
