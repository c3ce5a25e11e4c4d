use Rattle.gf256.specs.Field.{gmul, inverse}
use Rattle.gf256.specs.Sbox.{affine, sbox}
use Rattle.gf256.proofs.Boxes.{agree_each}
use Rattle.fast_aes.specs.Words.{te}
use Rattle.fast_aes.proofs.te.ForthDirection.table.Goals as goal

pub returns : goal.returns
unfolding sbox affine inverse gmul
returns c = agree_each 4 256 _ te tt
