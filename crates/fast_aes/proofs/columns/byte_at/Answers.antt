use Rattle.std.proofs.Common.{◌≡◌, ℕ, zero, suc, ◌<◌, ◌/◌, ◌%◌, ◌∷◌, [], get_or, ap, ◌∙◌, arith}
use Rattle.fast_aes.specs.Words.{byte}
use Rattle.fast_aes.proofs.columns.byte_at.Goals as goal

at : (i w : ℕ) → i < 4 → get_or (w / 16777216 % 256 ∷ w / 65536 % 256 ∷ w / 256 % 256 ∷ w % 256 ∷ []) i 0 ≡ byte i w
unfolding byte
at zero w h = omega arith
at (suc zero) w h = omega arith
at (suc (suc zero)) w h = omega arith
at (suc (suc (suc zero))) w h = omega arith
at (suc (suc (suc (suc i)))) w h = absurd (omega arith)

pub returns : goal.returns
returns c = ap (λ bs. get_or bs c.args.i 0) c.to_be_bytes.ensures ∙ at c.args.i c.args.w c.requires
