use Rattle.fileparts.proofs.Walks.{walks, ends}
use Rattle.fileparts.proofs.Holding.{contents}
use Rattle.fileparts.proofs.reader_laws.Goals as goal

pub returns : goal.returns
returns c = record { walks = walks; contents = contents; ends = ends }
