use Rattle.gf256.specs.Field.{gmul, inverse}
use Rattle.gf256.specs.Sbox.{affine, sbox}
use Rattle.gf256.proofs.Boxes.{agree}
use Rattle.gf256.proofs.sbox_table.table.Goals as goal

pub returns : goal.returns
unfolding sbox affine inverse gmul
returns c = agree 256 _ sbox tt
