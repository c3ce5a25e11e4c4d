use Rattle.std.proofs.Common.{refl, ap, ◌∙◌}
use Rattle.console.specs.Known.{known_of}
use Rattle.console.specs.Replies.{block_reply, message_answer}
use Rattle.console.proofs.Asked.{ciphered, sealed_under}
use Rattle.console.proofs.Exits.{gives_failure}
use Rattle.console.proofs.given.Given.obey.Goals as goal

pub returns-in_err-put_sealed-in-Message : goal.returns-in_err-put_sealed-in-Message
returns-in_err-put_sealed-in-Message c =
    let g = known_of c.args.self.now in
    let e = c.in_ok-envelope-in-Message.envelope in
    let s = sealed_under g e.settings e.nonce e.heading.now c.as_slice.result.now _ c.in_ok-envelope-in-Message.ensures c.in_ok-c-in-Message.ensures in
    rw c.in-Message.is
    (gives_failure _ c.in_err-put_sealed-in-Message.field-0.0 _ _ _ _ _ c.from_residual-in_err-put_sealed-in-Message.ensures.1
    (λ x is. is ∙ s ∙ ap (message_answer g) c.as_slice.ensures.value) refl c.in_err-put_sealed-in-Message.ensures)

pub returns-in_ok-put_block-in-Block : goal.returns-in_ok-put_block-in-Block
returns-in_ok-put_block-in-Block c =
    let is = ciphered c.args.self.now.key c.args.self.now.settings _ (λ m. block_reply m c.in-Block.block) c.in_ok-cipher-in-Block.ensures in
    rw c.in-Block.is ((_, c.in_ok-put_block-in-Block.ensures, is), refl)

pub returns-in_ok-put_sealed-in-Message : goal.returns-in_ok-put_sealed-in-Message
returns-in_ok-put_sealed-in-Message c =
    let g = known_of c.args.self.now in
    let e = c.in_ok-envelope-in-Message.envelope in
    let s = sealed_under g e.settings e.nonce e.heading.now c.as_slice.result.now _ c.in_ok-envelope-in-Message.ensures c.in_ok-c-in-Message.ensures in
    let a = c.in_ok-put_sealed-in-Message.ensures.0 in
    rw c.in-Message.is ((a.0, a.1, a.2 ∙ s ∙ ap (message_answer g) c.as_slice.ensures.value), refl)
