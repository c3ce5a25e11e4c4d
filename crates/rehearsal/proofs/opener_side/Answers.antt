use Rattle.std.proofs.Common.{sym}
use Rattle.elmd.specs.Refusals.{mark_number}
use Rattle.rehearsal.proofs.Sides.{open_side}
use Rattle.rehearsal.proofs.opener_side.Goals as goal

pub returns-clause-side : goal.returns-clause-side
returns-clause-side g c =
    let made = c.in_ok-closed.ensures in
    let driven = c.drive_opener.ensures in
    open_side _ c.in_ok-closed.closed (g.C.Cipher.meaning c.close.new.c) c.args.stream_length (mark_number c.args.mark) _ _ _ _ _ _ made.answer (sym c.close.ensures.same) made.closes driven.refused driven.law driven.rest
