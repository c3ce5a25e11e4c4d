use Rattle.block.specs.Value.{value}
use Rattle.cipher.specs.Meaning.{Meaning}
use Rattle.speck.specs.declared.raw.Speck.{Speck}
use Rattle.speck.specs.Speck.{speck}

abbrev pub meaning_of : Speck → Meaning
meaning_of s = speck (value s.key)
