use Rattle.std.proofs.Common.{◌≡◌, true, ap, ◌∙◌, eq-eqb}
use Rattle.block.specs.Value.{value}
use Rattle.cipher.specs.Meaning.{Meaning}
use Rattle.speck.specs.Rounds.{published, published_back}
use Rattle.speck.proofs.self_test.Goals as goal

pub returns : goal.returns
returns c =
    let plaintext = value c.test_vector.result.1 in
    let ciphertext = value c.test_vector.result.2 in
    let enc = ap (λ (m : Meaning). m.enc plaintext) c.new-speck.ensures in
    let dec = ap (λ (m : Meaning). m.dec ciphertext) (c.encrypt-forth.ensures.same ∙ c.new-speck.ensures) in
    let there = published in
    let back = published_back in
    let forth-is : value c.encrypt-forth.result ≡ ciphertext = cc in
    let back_is : value c.decrypt-back.result ≡ plaintext = cc in
    let a : c.eq.result ≡ true = c.eq.ensures ∙ eq-eqb _ _ forth-is in
    let b : c.eq-2.result ≡ true = c.eq-2.ensures ∙ eq-eqb _ _ back_is in
    record { published = published; passes = rw (a, b) }
