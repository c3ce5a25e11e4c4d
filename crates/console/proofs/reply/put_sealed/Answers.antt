use Rattle.std.proofs.Common.{◌≡◌, ◌≤◌, length, take, ap, ◌∙◌, arith, rules, length-append}
use Rattle.std.proofs.lemmas.List.{take_at}
use Rattle.elmd.specs.Envelope.{frame_under}
use Rattle.console.specs.declared.fault.Fault.TheVariants.{Refused}
use Rattle.console.specs.Replies.{seal_line, stream_line}
use Rattle.elmd.specs.Refusals.{mark_number}
use Rattle.console.proofs.Exits.{gives_fault}
use Rattle.console.proofs.Seals.{ok_size, stream_shown, seal_reply_at}
use Rattle.console.proofs.reply.put_sealed.Goals as goal

pub returns-in_err-n : goal.returns-in_err-n
returns-in_err-n g c =
    let u = frame_under (g.C.Cipher.meaning c.args.c.now) c.args.envelope.now in
    let size = c.as_mut_slice.ensures.len ∙ c.in_ok-room.ensures.len in
    gives_fault _ (Refused c.in_err-n.field-0.0) _ _ _ c.from_residual-in_err-n.ensures.1
    (ap (seal_line u c.args.message.now) c.in_err-n.ensures.answer ∙ seal_reply_at u c.args.message.now _ size c.requires) tt

pub slice_bounds-put_stream-end : goal.slice_bounds-put_stream-end
slice_bounds-put_stream-end g c =
    let u = frame_under (g.C.Cipher.meaning c.args.c.now) c.args.envelope.now in
    let n = ok_size u c.args.message.now _ c.in_ok-n.n c.in_ok-n.mark c.in_ok-n.ensures.answer in
    let w : c.in_ok-n.n ≤ length c.deref.result.now = omega (arith, n, simp length-append at (ap length c.in_ok-n.ensures.output)) in
    search rules

pub returns : goal.returns
returns g c =
    let u = frame_under (g.C.Cipher.meaning c.args.c.now) c.args.envelope.now in
    let size = c.as_mut_slice.ensures.len ∙ c.in_ok-room.ensures.len in
    let same : length c.seal.new.out ≡ c.in_ok-room.room.len = omega arith in
    let back = c.deref.ensures.value ∙ take_at c.seal.new.out _ c.in_ok-room.room.len same in (
      (
        _,
        c.in_ok-put_stream.ensures,
        ap (λ s. stream_line (mark_number c.in_ok-n.mark) (take c.in_ok-n.n s)) back
            ∙ stream_shown u c.args.message.now _ c.seal.new.out c.in_ok-n.n c.in_ok-n.mark c.in_ok-n.ensures.answer c.in_ok-n.ensures.output
            ∙ seal_reply_at u c.args.message.now _ size c.requires,
      ),
      tt,
    )
