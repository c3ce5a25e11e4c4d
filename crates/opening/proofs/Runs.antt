-- Blocks opened in their place, one after another.
use Rattle.std.proofs.Common.{◌≡◌, ℕ, suc, ◌+◌, ◌-◌, ◌*◌, ◌/◌, ◌<◌, ◌≤◌, List, [], ◌++◌, length, take, drop, sym, ap, ◌∙◌, subst, append_assoc, add-zero, arith, length-append, length-drop, take-append-drop}
use Rattle.std.proofs.lemmas.Nat.{div-mul-add}
use Rattle.std.proofs.lemmas.List.{append-nil, drop-drop, take-take, drop-take, take_at, drop_at}
use Rattle.block.specs.Bytes.{bytes_of, of_bytes, padded}
use Rattle.elmd.specs.Stream.{Frame, t_of}
use Rattle.elmd.specs.Opening.{block_in, released, p_r}
use Rattle.opening.specs.declared.state.Reading.{Reading}
use Rattle.opening.specs.Reading.{ReadsPast, Reads}
use Rattle.opening.specs.Segment.{Ran, There}
use Rattle.opening.proofs.Readings.{inside, loaded}

pub drops_more : (x y z : List ℕ) (k : ℕ) → drop (16 * k) x ≡ drop (16 * k) y → drop (16 * k + 16) z ≡ drop (16 * k + 16) x → drop (16 * (k + 1)) z ≡ drop (16 * (k + 1)) y
drops_more x y z k e f =
    let a : 16 * (k + 1) ≡ 16 * k + 16 = omega arith in
    ap (λ (n : ℕ). drop n z) a ∙ f ∙ sym (drop-drop 16 (16 * k) x) ∙ ap (drop 16) e ∙ drop-drop 16 (16 * k) y ∙ ap (λ (n : ℕ). drop n y) (sym a)

pub ran_none : (u : Frame) (st : List ℕ) (i j : ℕ) (s : Reading) → ReadsPast u st i j s → Ran u st i j 0 s []
ran_none u st i j s r = record {
  reads = subst (λ (n : ℕ). ReadsPast u st n j s) (sym (add-zero i)) r;
  written = ap (released u st) (add-zero i) ∙ sym (append-nil (released u st i));
}

module _ (u : Frame) (st : List ℕ) (i j k : ℕ) (s : Reading) (at : i ≡ j * t_of u) (few : k < t_of u) where
  pub quo : (i + k) / t_of u ≡ j
  quo = ap (λ (n : ℕ). (n + k) / t_of u) at ∙ div-mul-add j (t_of u) k few

  pub reads_at : ReadsPast u st (i + k) j s → Reads u st (i + k) s
  reads_at r = subst (λ (n : ℕ). ReadsPast u st (i + k) n s) (sym quo) r

  -- what is loaded is the block in its place
  pub block_there : (n v : ℕ) (initial bytes : List ℕ) → k < n → There initial st i j (16 * n) → drop (16 * k) bytes ≡ drop (16 * k) initial → 16 * k + 16 ≤ length bytes → v ≡ of_bytes (padded (take 16 (drop (16 * k) bytes)))
      → v ≡ block_in st (i + k + (i + k) / t_of u)
  block_there n v initial bytes h there same room ev =
      let q = quo in
      let x : ℕ = 16 * (i + j) in
      let e : x + 16 * k ≡ 16 * (i + k + (i + k) / t_of u) = omega arith in
      loaded bytes st (i + k + (i + k) / t_of u) (16 * k) v
      (ap (take 16) same ∙ inside initial (drop x st) (16 * n) (16 * k) 16 there (omega arith) ∙ ap (take 16) (drop-drop (16 * k) x st) ∙ ap (λ (z : ℕ). take 16 (drop z st)) e) room ev

  pub ran_more : (s' : Reading) (b : ℕ) (bytes bytes' : List ℕ) → Ran u st i j k s (take (16 * k) bytes) → ReadsPast u st (suc (i + k)) ((i + k) / t_of u) s' → b ≡ p_r u st (suc (i + k))
      → take (16 * k + 16) bytes' ≡ take (16 * k) bytes ++ bytes_of b → Ran u st i j (k + 1) s' (take (16 * (k + 1)) bytes')
  ran_more s' b bytes bytes' ran rd eb w =
      let a : 16 * k + 16 ≡ 16 * (k + 1) = omega arith in
      let n1 : suc (i + k) ≡ i + (k + 1) = omega arith in
      record {
        reads = subst (λ (z : ℕ). ReadsPast u st z j s') n1 (subst (λ (z : ℕ). ReadsPast u st (suc (i + k)) z s') quo rd);
        written = ap (released u st) (sym n1)
            ∙ ap (λ (z : List ℕ). z ++ bytes_of (p_r u st (suc (i + k)))) ran.written
            ∙ ap (λ (z : ℕ). (released u st i ++ take (16 * k) bytes) ++ bytes_of z) (sym eb)
            ∙ append_assoc (released u st i) (take (16 * k) bytes) (bytes_of b)
            ∙ ap (λ (z : List ℕ). released u st i ++ z) (sym w ∙ ap (λ (z : ℕ). take z bytes') a);
      }

take_past : (a b : List ℕ) (m q : ℕ) → length a ≡ m → take (m + q) (a ++ b) ≡ a ++ take q b
take_past a b m q l =
    sym (take-append-drop m (take (m + q) (a ++ b))) ∙ ap (λ (z : List ℕ). z ++ drop m (take (m + q) (a ++ b))) (take-take m (m + q) (a ++ b) (omega arith) ∙ take_at a b m l)
    ∙ ap (λ (z : List ℕ). a ++ z) (drop-take m q (a ++ b) ∙ ap (take q) (drop_at a b m l))

-- the last block behind them
pub last_front : (held₂ plain v out' : List ℕ) (n q : ℕ) → q ≤ 16 → length plain ≡ 16 * n → take (16 * n + 16) held₂ ≡ plain ++ v → take (16 * n + q) out' ≡ take (16 * n + q) held₂ → take (16 * n + q) out' ≡ plain ++ take q v
last_front held₂ plain v out' n q h l e w =
    w ∙ sym (take-take (16 * n + q) (16 * n + 16) held₂ (omega arith)) ∙ ap (take (16 * n + q)) e ∙ take_past plain v (16 * n) q l

-- what was held, of which the first n blocks are opened
module _ (held plain st : List ℕ) (i j n : ℕ) (size : length plain ≡ 16 * n) where
  pub front_there : (m : ℕ) → 16 * n ≤ m → There held st i j m → There (take (16 * n) held) st i j (16 * n)
  front_there m h there = take-take (16 * n) (16 * n) held (omega arith) ∙ sym (take-take (16 * n) m held h) ∙ ap (take (16 * n)) there ∙ take-take (16 * n) m (drop (16 * (i + j)) st) h

  pub opened_front : take (16 * n) (plain ++ drop (16 * n) held) ≡ plain
  opened_front = take_at plain (drop (16 * n) held) (16 * n) size

  place : 16 * (i + j) + 16 * n ≡ 16 * (i + n + j)
  place = omega arith

  -- the check behind them
  pub check_there : (v : ℕ) → There held st i j (16 * n + 16) → 16 * n + 16 ≤ length held → v ≡ of_bytes (padded (take 16 (drop (16 * n) (plain ++ drop (16 * n) held)))) → v ≡ block_in st (i + n + j)
  check_there v there room ev =
      loaded (plain ++ drop (16 * n) held) st (i + n + j) (16 * n) v
      (ap (take 16) (drop_at plain (drop (16 * n) held) (16 * n) size) ∙ inside held (drop (16 * (i + j)) st) (16 * n + 16) (16 * n) 16 there (omega arith)
      ∙ ap (take 16) (drop-drop (16 * n) (16 * (i + j)) st) ∙ ap (λ (z : ℕ). take 16 (drop z st)) place)
      (simp (length-append, length-drop) (omega arith)) ev

  -- or the last block and the tag
  pub end_there : (tag q : ℕ) → q ≡ j → take (16 * n + 16 + tag) held ≡ drop (16 * (i + j)) st → take (16 * n + 16 + tag - 16 * n) (drop (16 * n) (plain ++ drop (16 * n) held)) ≡ drop (16 * (i + n + q)) st
  end_there tag q e there =
      let m : 16 * n + 16 + tag - 16 * n ≡ 16 + tag = omega arith in
      let l : 16 * n + (16 + tag) ≡ 16 * n + 16 + tag = omega arith in
      ap (λ (z : ℕ). take z (drop (16 * n) (plain ++ drop (16 * n) held))) m ∙ ap (take (16 + tag)) (drop_at plain (drop (16 * n) held) (16 * n) size) ∙ sym (drop-take (16 * n) (16 + tag) held)
      ∙ ap (λ (z : ℕ). drop (16 * n) (take z held)) l ∙ ap (drop (16 * n)) there ∙ drop-drop (16 * n) (16 * (i + j)) st ∙ ap (λ (z : ℕ). drop z st) place ∙ ap (λ (z : ℕ). drop (16 * (i + n + z)) st) (sym e)
