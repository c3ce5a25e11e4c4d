use Rattle.std.proofs.Common.{◌≡◌, take}
use Rattle.elmd.specs.Heading.{Carried, Grows}
use Rattle.elmd.proofs.state.OpenHeading.push_all.Given as goal

abbrev pub invariant-loop-b : goal.invariant-loop-b
invariant-loop-b g l =
    let m = g.C.Cipher.meaning in
    (m l.c ≡ m l.initial.c)
    × Carried l.initial.self l.self l.b-index
    × Grows (m l.initial.c) l.initial.self (take l.b-index l.piece) l.self
