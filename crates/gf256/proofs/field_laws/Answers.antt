use Rattle.gf256.proofs.Boxes.{gmul_inverse, inv_sbox_lem, sbox_inv}
use Rattle.gf256.proofs.field_laws.Goals as goal

pub returns : goal.returns
returns c = record { inverse = gmul_inverse; sub = inv_sbox_lem; back = sbox_inv }
