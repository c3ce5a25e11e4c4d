use Rattle.std.proofs.Common.{refl}
use Rattle.block.specs.Bytes.{bytes_of}
use Rattle.gf256.specs.Field.{gmul, inverse}
use Rattle.gf256.specs.Sbox.{affine, inv_affine, sbox, inv_sbox}
use Rattle.aes.specs.Fips197.{sub_bytes, inv_sub_bytes, shift_by, mix_by, add_round_key, next_key, key_schedule, enc, dec}
use Rattle.aes.proofs.fips_vectors.Goals as goal

pub returns : goal.returns
unfolding enc dec key_schedule next_key sub_bytes inv_sub_bytes shift_by mix_by add_round_key sbox inv_sbox affine inv_affine inverse gmul bytes_of
returns c = record { ten = ((refl, refl), ((refl, refl), tt)); six = ((refl, refl), ((refl, refl), tt)) }
