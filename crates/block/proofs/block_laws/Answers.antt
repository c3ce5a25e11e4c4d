use Rattle.block.proofs.Laws.{undone, dbl_xor, unmixed, by_cases}
use Rattle.block.proofs.Bytes.{bytes_number_back, number_back}
use Rattle.block.proofs.Filling.{filled_is}
use Rattle.block.proofs.block_laws.Goals as goal

pub returns : goal.returns
returns c = record {
  cases = by_cases;
  undone = undone;
  linear = dbl_xor;
  unmixed = unmixed;
  bytes = bytes_number_back;
  number = number_back;
  filled = filled_is;
}
