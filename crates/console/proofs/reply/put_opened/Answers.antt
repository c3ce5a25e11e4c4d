use Rattle.std.proofs.Common.{◌≡◌, ◌≤◌, Ok, Err, length, take, refl, ap, ◌∙◌, arith, rules}
use Rattle.std.proofs.lemmas.List.{take_at}
use Rattle.elmd.specs.Envelope.{frame_under}
use Rattle.elmd.specs.Refusals.{mark_number}
use Rattle.console.specs.declared.fault.Fault.TheVariants.{Refused}
use Rattle.console.specs.Replies.{bytes_line}
use Rattle.console.proofs.Exits.{gives_fault}
use Rattle.console.proofs.Opens.{shown_reply, ok_within}
use Rattle.console.proofs.reply.put_opened.Goals as goal

pub returns-in_err-n : goal.returns-in_err-n
returns-in_err-n g c =
    let u = frame_under (g.C.Cipher.meaning c.args.c.now) c.args.envelope.now in
    let size = c.as_mut_slice.ensures.len ∙ c.in_ok-room.ensures.len in
    gives_fault _ (Refused c.in_err-n.field-0.0) _ _ _ c.from_residual-in_err-n.ensures.1
    (shown_reply u (mark_number c.args.mark) c.args.stream.now c.as_mut_slice.result.now _ size
    (Err c.in_err-n.field-0.0, c.open.new.out, c.in_err-n.ensures.opened, refl)) tt

pub slice_bounds-put_bytes-end : goal.slice_bounds-put_bytes-end
slice_bounds-put_bytes-end g c =
    let u = frame_under (g.C.Cipher.meaning c.args.c.now) c.args.envelope.now in
    let n = ok_within u c.args.stream.now c.as_mut_slice.result.now c.open.new.out (mark_number c.args.mark) c.in_ok-n.n c.open.auto.out c.in_ok-n.ensures.opened in
    let w : c.in_ok-n.n ≤ length c.deref.result.now = omega (arith, n) in
    search rules

pub returns : goal.returns
returns g c =
    let u = frame_under (g.C.Cipher.meaning c.args.c.now) c.args.envelope.now in
    let size = c.as_mut_slice.ensures.len ∙ c.in_ok-room.ensures.len in
    let same : length c.open.new.out ≡ c.in_ok-room.room.len = omega arith in
    let back = c.deref.ensures.value ∙ take_at c.open.new.out _ c.in_ok-room.room.len same in (
      (
        _,
        c.in_ok-put_bytes.ensures,
        shown_reply u (mark_number c.args.mark) c.args.stream.now c.as_mut_slice.result.now _ size
            (Ok c.in_ok-n.n, c.open.new.out, c.in_ok-n.ensures.opened, ap (λ s. bytes_line 77 (take c.in_ok-n.n s)) back),
      ),
      tt,
    )
