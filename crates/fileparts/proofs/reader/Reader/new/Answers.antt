use Rattle.std.proofs.Common.{◌≡◌, Ok, refl}
use Rattle.fileparts.specs.Reads.{early_answer, Answered, Starts}
use Rattle.fileparts.proofs.Laying.{early_ok, adds, lays, possible}
use Rattle.fileparts.proofs.Walks.{walks}
use Rattle.fileparts.proofs.reader.Reader.new.Goals as goal

pub invariant_of-result : goal.invariant_of-result
invariant_of-result c = record { whole = adds c.args.file.now c.in_ok-front.front c.in_ok-settings.settings c.in_ok-shape.shape c.in_ok-front.ensures.front c.in_ok-settings.ensures.value c.in_ok-shape.ensures }

pub returns : goal.returns
returns c =
    let file = c.args.file.now in
    let front = c.in_ok-front.ensures in
    let own = c.in_ok-settings.ensures in
    let ok : early_answer file ≡ Ok tt = early_ok file c.in_ok-front.front.settings front.answer front.front.settings_is own.answer in
    let laid = lays file c.in_ok-front.front c.in_ok-settings.settings c.in_ok-shape.shape front.front own.value c.in_ok-shape.ensures in
    let answer : Answered file (Ok tt) = record { early = λ e bad. cc; later = λ _. possible file _ laid } in
    let starts : Starts file _ = record { file_is = refl; none_given = refl; laid = laid } in
    record { answer = answer; starts = starts; walks = walks file _ starts }
