use Rattle.std.proofs.Common.{[], refl}
use Rattle.elmd.specs.Heading.{frame_of}
use Rattle.elmd.proofs.Heads.{first_head}
use Rattle.elmd.proofs.heading.open_heading.Goals as goal

pub returns : goal.returns
returns g c =
    let m = g.C.Cipher.meaning c.args.c.now in
    let chosen = c.in_ok-chosen.ensures in
    let first = first_head (frame_of m c.args.settings.now c.args.nonce.now []) in
    record {
      answer = cc;
      stands = record { chosen = chosen.value; based = cc; size = refl; chained = cc; masked = cc; held = refl };
      same = cc;
    }
