use Rattle.console.proofs.Hexes.{hex_back}
use Rattle.console.proofs.hex.hex_laws.Goals as goal

pub returns : goal.returns
returns c = hex_back
