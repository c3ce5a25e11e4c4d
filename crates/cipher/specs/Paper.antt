-- The paper cipher keeps the laws.
use Rattle.std.specs.Prelude.{ℕ, ◌^◌, ◌<◌}
use Rattle.std.proofs.Common.{lit<}
use Rattle.std.proofs.lemmas.Nat.{xor_lt}
use Rattle.block.proofs.Laws.{xor_cancel}
use Rattle.cipher.specs.Meaning.{Lawful, paper}

pub paper_lawful : (k : ℕ) → k < 2 ^ 128 → Lawful (paper k)
paper_lawful k p = record {
  dec_enc = λ b h. xor_cancel b k;
  enc_dec = λ b h. xor_cancel b k;
  enc_lt = λ b h. xor_lt 128 b k h p;
  dec_lt = λ b h. xor_lt 128 b k h p;
  label_lt = lit< tt;
}
