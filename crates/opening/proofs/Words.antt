-- What the recovered quantities say of streams and messages.
use Rattle.std.proofs.Common.{◌≡◌, ℕ, pred, ◌+◌, ◌-◌, ◌*◌, ◌/◌, ◌<◌, ◌≤◌, List, [], ◌++◌, length, take, drop, replicate, Ok, Err, Result, sym, refl, ap, ◌∙◌, subst, ⊎_elim, append_assoc, le_refl, arith, length-append, take-append-drop, length-take}
use lib.Bits.{bit_xor}
use Rattle.std.proofs.ByRecursion.{All-take}
use Rattle.std.proofs.lemmas.Nat.{mul-le}
use Rattle.std.proofs.lemmas.List.{append-nil}
use Rattle.block.specs.Bytes.{Bytes}
use Rattle.block.proofs.Bytes.{length_bytes_of}
use Rattle.elmd.specs.declared.refusal.Refusal.{Refusal}
use Rattle.elmd.specs.declared.refusal.Refusal.TheVariants.{BadCheck, BadTag}
use Rattle.elmd.specs.Stream.{Frame, t_of, blocks, checks, check_spot, tag_spot, out_mask, stream}
use Rattle.elmd.specs.Opening.{block_in, blocks_of, w_r, Check, Checks, Right, opened}
use Rattle.elmd.specs.Laws.{Begins, Sound, MessageOf, Extends}
use Rattle.elmd.proofs.Quo.{quo_back, quo_fits}
use Rattle.elmd.proofs.Recover.{front_block}
use Rattle.elmd.proofs.Steps.{growing}
use Rattle.elmd.proofs.Injective.{injectivity, same_l}
use Rattle.elmd.proofs.Extend.{extension, checks_hold, message_length}
use Rattle.elmd.proofs.Finish.{opening, finish, mark_cases}
use Rattle.opening.specs.Judging.{Cause, FirstBad, BadEnd, Judged}
use Rattle.opening.specs.Open.{SealOf, through, FirstBadCheck, Judgement, Found}
use Rattle.opening.proofs.Parts.{cause_map}

-- a check sees only the bytes through it
module _ (u : Frame) (s : List ℕ) (j : ℕ) (h : ℕ) (fits : j ≤ h / t_of u) (long : 16 * (j * t_of u + j) ≤ length s) where
  abbrev front : List ℕ
  front = through u s j

  front_length : length front ≡ 16 * (j * t_of u + j)
  front_length = simp length-take (omega arith)

  begins : Begins front s
  begins = (drop (16 * (j * t_of u + j)) s, take-append-drop (16 * (j * t_of u + j)) s)

  same_check : (k : ℕ) → 1 ≤ k → k ≤ j → (Check u front k → Check u s k) × (Check u s k → Check u front k)
  unfolding Check
  same_check k p q =
      let t : ℕ = t_of u in
      let less : k * t ≤ j * t = mul-le k t j t q (le_refl t) in
      let b : k * t / t ≡ k = quo_back k t h (omega arith) in
      let l = front_length in
      let w : w_r u front (k * t) ≡ w_r u s (k * t) = ((growing u front s begins).states (k * t) (omega arith)).0 in
      let e : block_in front (check_spot u k) ≡ block_in s (check_spot u k) = front_block front s (check_spot u k) begins (omega arith) in
      let m : bit_xor (u.cipher.dec (w_r u front (k * t))) (out_mask u (check_spot u k)) ≡ bit_xor (u.cipher.dec (w_r u s (k * t))) (out_mask u (check_spot u k)) = ap (λ (z : ℕ). bit_xor (u.cipher.dec z) (out_mask u (check_spot u k))) w in
      (λ c. sym e ∙ c ∙ m, λ c. e ∙ c ∙ sym m)

  pub checks_in : Checks u s j → Checks u front j
  checks_in c k p q = (same_check k p q).1 (c k p q)

  pub checks_out : Checks u front j → Checks u s j
  checks_out c k p q = (same_check k p q).0 (c k p q)

front_bytes : (s : List ℕ) (n : ℕ) → Bytes s → Bytes (take n s)
front_bytes s n b = All-take (λ x. x < 256) n s b

module _ (u : Frame) (sound : Sound u) (s : List ℕ) (bytes : Bytes s) (k : ℕ) (m : List ℕ) (hm : MessageOf u (length s) k m) where
  abbrev S : ℕ
  S = length s

  abbrev l : ℕ
  l = blocks_of u S

  abbrev h : ℕ
  h = checks u l

  l_is : blocks m ≡ l
  l_is = same_l u S k m hm

  l_some : 1 ≤ l
  l_some = let p = hm.some in let e = l_is in omega arith

  -- the checks stand within the stream
  long : (j : ℕ) → j ≤ h → 16 * (j * t_of u + j) ≤ S
  long j q =
      let f : j * t_of u ≤ pred l = quo_fits j (t_of u) (pred l) q in
      let p = l_some in
      let a = Rattle.elmd.proofs.Lengths.stream_length u m hm.some in
      let e = hm.size in
      let b : tag_spot u (blocks m) ≡ tag_spot u l = ap (tag_spot u) l_is in
      omega arith

  -- the checks through j hold exactly when the bytes through check j begin the stream of a message
  pub extends : (j : ℕ) → j ≤ h → (Checks u s j → Extends u S k (through u s j)) × (Extends u S k (through u s j) → Checks u s j)
  extends j q =
      let e = extension u sound S k m hm j (through u s j) (front_bytes s (16 * (j * t_of u + j)) bytes) q (front_length u s j (pred l) q (long j q)) in
      (λ c. e.0 (checks_in u s j (pred l) q (long j q) c), λ x. checks_out u s j (pred l) q (long j q) (e.1 x))

  pub bad_check : (j : ℕ) → FirstBad u s h j → FirstBadCheck u s k j
  bad_check j b =
      let p = b.some in
      let q = b.most in
      record {
        some = b.some;
        most = b.most;
        before = (extends (pred j) (omega arith)).0 b.before;
        bad = λ x. b.bad ((extends j b.most).1 x j b.some (le_refl j));
      }

  itself : (n : List ℕ) → stream u n ≡ s → Begins s (stream u n)
  itself n e = ([], append-nil s ∙ sym e)

  -- no seal has a bad check or a bad end
  seal_checked : (n : List ℕ) → SealOf u s k n → (j : ℕ) → j ≤ h → Checks u s j
  seal_checked n (hn, e) j q =
      let a = same_l u S k n hn in
      checks_hold u sound n s j hn.bytes hn.some (subst (λ (x : ℕ). j ≤ checks u x) (sym a) q) (long j q) (itself n e)

  not_bad : (n : List ℕ) → SealOf u s k n → (e : Refusal) → Cause (FirstBad u s h) (BadEnd u s k l) e → ⊥
  not_bad n x (BadCheck j) c = c.bad (seal_checked n x j c.most j c.some (le_refl j))
  not_bad n (hn, e) BadTag c = let a = (finish u sound S k m hm s bytes refl).1 (n, hn, e) in c.wrong a.0 a.1
  not_bad n x e c = c

  module _ (q : ℕ) (right : Right u s k l q) where
    q_most : q ≤ 16
    q_most = ⊎_elim (λ z. let a = right.short (sym hm.marked ∙ z) in omega arith) (λ z. let a = right.whole (sym hm.marked ∙ z) in omega arith) (mark_cases m)

    opened_length : length (opened u s k l q) ≡ 16 * pred l + q
    opened_length = let a = message_length u s (pred l) in let b = q_most in simp (length-append, length-take, length_bytes_of) (omega arith)

    found : SealOf u s k (opened u s k l q)
    found = let o = opening u sound S k m hm s bytes refl q right in (o.0, o.1)

    only : (n : List ℕ) → SealOf u s k n → opened u s k l q ≡ n
    only n (hn, e) = sym ((opening u sound S k m hm s bytes refl q right).2 n hn e)

    rest_is : 16 - q ≡ 16 * l - length (opened u s k l q)
    rest_is = let a = opened_length in let b = q_most in let p = l_some in omega arith

  pub judgement : (r : Result ℕ Refusal) (part out out' : List ℕ) → Judged u s k l r part → out' ≡ part ++ drop (16 * l) out → Judgement u s k out r out'
  judgement (Ok n) part out out' (q, g) e =
      let x : List ℕ = opened u s k l q in
      let size : n ≡ length x = g.counted ∙ sym (opened_length q g.right) in
      let all : out' ≡ x ++ (replicate (16 * l - length x) 0 ++ drop (16 * l) out) =
      e ∙ ap (λ (z : List ℕ). z ++ drop (16 * l) out) g.written ∙ append_assoc x (replicate (16 - q) 0) (drop (16 * l) out)
      ∙ ap (λ (i : ℕ). x ++ (replicate i 0 ++ drop (16 * l) out)) (rest_is q g.right) in
      let told : ◌≡◌ {A = Result ℕ Refusal} (Ok n) (Ok (length x)) = ap (λ (i : ℕ). Ok i) size in
      record {
        accepts = λ y sy. subst (λ (z : List ℕ). (◌≡◌ {A = Result ℕ Refusal} (Ok n) (Ok (length z))) × (out' ≡ z ++ (replicate (16 * l - length z) 0 ++ drop (16 * l) out))) (only q g.right y sy) (told, all);
        refuses = λ no. absurd (no x (found q g.right));
        one = λ a b sa sb. injectivity u sound S k a b sa.0 sb.0 (sa.1 ∙ sym sb.1);
      }
  judgement (Err w) part out out' (z, c) e = record {
    accepts = λ y sy. absurd (not_bad y sy w c);
    refuses = λ no. (
      cause_map (FirstBad u s h) (FirstBadCheck u s k) (BadEnd u s k l) (Extends u S k (through u s h)) bad_check (λ b. (extends h (le_refl h)).0 b.checked) w c,
      e ∙ ap (λ (x : List ℕ). x ++ drop (16 * l) out) z,
    );
    one = λ a b sa sb. injectivity u sound S k a b sa.0 sb.0 (sa.1 ∙ sym sb.1);
  }

  pub seal_found : (r : Result ℕ Refusal) (part : List ℕ) → Judged u s k l r part → Found u s k r
  seal_found (Ok n) part (q, g) =
      let size : n ≡ length (opened u s k l q) = g.counted ∙ sym (opened_length q g.right) in
      record { found = λ i e. (opened u s k l q, found q g.right, (cc)) }
  seal_found (Err w) part c = record { found = λ i e. let z : ◌≡◌ {A = ℕ} 0 1 = cc in absurd (omega arith) }
