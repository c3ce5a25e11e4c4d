use Rattle.std.proofs.Common.{◌≡◌, refl, rules}
use Rattle.block.specs.Bytes.{bytes_by}
use Rattle.payfile.proofs.Puts.{front_laid}
use Rattle.payfile.proofs.front.Front.to_bytes.Goals as goal

pub returns : goal.returns
returns c =
    let heading : c.copy_from_slice.new.self ≡ bytes_by 4 c.args.self.heading = search rules in
    let stream : c.copy_from_slice-2.new.self ≡ bytes_by 4 c.args.self.stream = search rules in
    front_laid _ _ _ _ _ _ _ _ _ _ heading stream c.copy_from_slice-3.ensures.after c.copy_from_slice-4.ensures.after c.from.ensures refl refl (search rules) (search rules)
