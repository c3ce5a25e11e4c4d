use Rattle.gf256.specs.Field.{gmul, inverse}
use Rattle.gf256.specs.Sbox.{inv_affine, inv_sbox}
use Rattle.gf256.proofs.Boxes.{agree_each}
use Rattle.fast_aes.specs.Words.{td}
use Rattle.fast_aes.proofs.td.BackDirection.table.Goals as goal

pub returns : goal.returns
unfolding inv_sbox inv_affine inverse gmul
returns c = agree_each 4 256 _ td tt
