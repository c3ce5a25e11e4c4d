use Rattle.std.proofs.Common.{ap, ◌∙◌}
use Rattle.gf256.specs.Sbox.{sbox}
use Rattle.fast_aes.proofs.Gathering.{unmixed_is}
use Rattle.fast_aes.proofs.columns.unmixed.Goals as goal

pub returns : goal.returns
returns c =
    unmixed_is c.args.w _ _ _ _ _ (c.sub.ensures ∙ ap sbox c.byte_at.ensures) (c.sub-2.ensures ∙ ap sbox c.byte_at-2.ensures)
    (c.sub-3.ensures ∙ ap sbox c.byte_at-3.ensures) (c.sub-4.ensures ∙ ap sbox c.byte_at-4.ensures) c.column.ensures
