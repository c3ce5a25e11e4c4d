use Rattle.std.proofs.Common.{◌≡◌, [], ◌∷◌, ap, ◌∙◌, arith, rules}
use Rattle.block.specs.Bytes.{of_bytes}
use Rattle.fast_aes.specs.Words.{bytes4}
use Rattle.fast_aes.proofs.Gathering.{bytes4_of}
use Rattle.fast_aes.proofs.columns.joined.Goals as goal

pub returns : goal.returns
returns c =
    let a = c.args in
    let e : c.from_be_bytes.result ≡ of_bytes (a.p ∷ a.q ∷ a.r ∷ a.s ∷ []) = omega (arith, c.from_be_bytes.ensures) in
    ap bytes4 e ∙ bytes4_of a.p a.q a.r a.s (search rules) (search rules) (search rules) (search rules)
