use Rattle.std.proofs.Common.{◌≡◌, Some, Option, refl, ap, ◌∙◌}
use Rattle.block.specs.Bytes.{of_bytes}
use Rattle.block.specs.Value.{value}
use Rattle.cipher.specs.Meaning.{Meaning}
use Rattle.aes.specs.Fips197.{aes10, aes6}
use Rattle.speck.specs.Speck.{speck}
use Rattle.exports.specs.Exports.{key_of, cipher_named}
use Rattle.exports.proofs.Choices.{key_back, blocks_named}
use Rattle.exports.proofs.proved_blocks.Goals as goal

pub returns-in-10 : goal.returns-in-10
returns-in-10 c =
    let key = key_of c.args.key.now in
    let made = c.new.ensures ∙ ap aes10 (key_back c.load.result c.to_bytes-key.result key c.to_bytes-key.ensures c.load.ensures) in
    let named : Some (aes10 key) ≡ cipher_named c.args.label key = rw c.in-10.is refl in
    c.turn_all.ensures.after ∙ blocks_named c.args.label key _ _ c.args.bytes.now (ap Some made ∙ named)

pub returns-in-6 : goal.returns-in-6
returns-in-6 c =
    let key = key_of c.args.key.now in
    let made = c.new-in-6.ensures ∙ ap aes6 (key_back c.load.result c.to_bytes-key.result key c.to_bytes-key.ensures c.load.ensures) in
    let named : Some (aes6 key) ≡ cipher_named c.args.label key = rw c.in-6.is refl in
    c.turn_all-in-6.ensures.after ∙ blocks_named c.args.label key _ _ c.args.bytes.now (ap Some made ∙ named)

pub returns-in-32 : goal.returns-in-32
returns-in-32 c =
    let key = key_of c.args.key.now in
    let made = c.new-in-32.ensures ∙ ap speck (c.from_bytes.ensures ∙ key_back c.load.result c.to_bytes-key.result key c.to_bytes-key.ensures c.load.ensures) in
    let named : Some (speck key) ≡ cipher_named c.args.label key = rw c.in-32.is refl in
    c.turn_all-in-32.ensures.after ∙ blocks_named c.args.label key _ _ c.args.bytes.now (ap Some made ∙ named)
