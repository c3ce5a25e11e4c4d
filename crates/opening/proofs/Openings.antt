-- An opener and the bytes that it has taken.
use Rattle.std.proofs.Common.{◌≡◌, ℕ, suc, pred, ◌+◌, ◌-◌, ◌*◌, ◌/◌, ◌<◌, ◌≤◌, List, [], ◌++◌, length, take, drop, sym, refl, ap, ◌∙◌, subst, append_assoc, suc-mul, zero-mul, mul-div_cancel, add-one, arith, length-append, length-drop}
use Rattle.std.proofs.ByRecursion.{All-append}
use Rattle.std.proofs.lemmas.List.{take_at, take-append-le, drop-append-le, length-take-le, drop_all, take_all}
use Rattle.block.specs.Bytes.{Bytes, bytes_of}
use Rattle.elmd.specs.Stream.{Frame, t_of, checks}
use Rattle.elmd.specs.Opening.{p_r, released, Check, Checks, Right, opened, last_r}
use Rattle.elmd.specs.Refusals.{mark_number}
use Rattle.elmd.proofs.Counts.{interval_is}
use Rattle.elmd.proofs.Quo.{quo_mono}
use Rattle.elmd.proofs.Rows.{sum_same}
use Rattle.elmd.proofs.Steps.{growing}
use Rattle.opening.specs.declared.state.Reading.{Reading}
use Rattle.opening.specs.declared.place.Opener.{Opener}
use Rattle.opening.specs.Reading.{ReadsPast, Reads}
use Rattle.opening.specs.Open.{through}
use Rattle.opening.specs.Judging.{EndRight}
use Rattle.opening.specs.Segment.{There, Rest}
use Rattle.opening.specs.Opener.{Opening}
use Rattle.opening.proofs.Passing.{checks_more}
use Rattle.opening.proofs.Words.{checks_in, checks_out}
use Rattle.opening.proofs.Standings.{times_more, blocks_low, full_checks, full_fill}

pub reads_start : (u : Frame) (r : Reading) → r.checks ≡ 0 → Reads u [] 0 r → Reads u [] (r.checks * t_of u) r
reads_start u r e ok = subst (λ (n : ℕ). Reads u [] n r) (sym (ap (λ (n : ℕ). n * t_of u) e ∙ zero-mul (t_of u))) ok

-- more bytes leave a reading and the checks before it
pub reads_grown : (u : Frame) (s x : List ℕ) (i : ℕ) (r : Reading) → 16 * (i + i / t_of u) ≤ length s → Reads u s i r → Reads u (s ++ x) i r
reads_grown u s x i r h ok =
    let k = growing u s (s ++ x) (x, refl) in
    record {
      small = ok.small;
      mixes = ok.mixes ∙ (k.states i h).0;
      masks = ok.masks;
      out_masks = ok.out_masks;
      sums = ok.sums ∙ sum_same (p_r u s) (p_r u (s ++ x)) i (λ n g. let q = quo_mono n i (t_of u) (omega arith) in (k.blocks_kept n (omega arith)).2);
      passed = ok.passed;
    }

pub checks_grown : (u : Frame) (s x : List ℕ) (j : ℕ) → 0 < t_of u → 16 * (j * t_of u + j) ≤ length s → Checks u s j → Checks u (s ++ x) j
checks_grown u s x j pos h c =
    let b : j * t_of u / t_of u ≡ j = mul-div_cancel j pos in
    let fits : j ≤ j * t_of u / t_of u = omega arith in
    let n : ℕ = 16 * (j * t_of u + j) in
    let l = length-append s x in
    let e : through u s j ≡ through u (s ++ x) j = sym (take-append-le n s x h) in
    checks_out u (s ++ x) j (j * t_of u) fits (omega arith) (subst (λ (z : List ℕ). Checks u z j) e (checks_in u s j (j * t_of u) fits h c))

-- the front of the held bytes after a piece is copied behind them
pub held_more : (buf p buf' : List ℕ) (at n : ℕ) → at ≤ length buf → length p ≡ n → buf' ≡ take at buf ++ (p ++ drop (at + length p) buf) → take (at + n) buf' ≡ take at buf ++ p
held_more buf p buf' at n h e q =
    let len : length (take at buf ++ p) ≡ at + n = length-append (take at buf) p ∙ (let a = length-take-le at buf h in omega arith) in
    ap (take (at + n)) (q ∙ sym (append_assoc (take at buf) p (drop (at + length p) buf))) ∙ take_at (take at buf ++ p) (drop (at + length p) buf) (at + n) len

module _ (u : Frame) (s x : List ℕ) (o : Opener) (ok : Opening u s o) where
  abbrev j : ℕ
  j = o.state.checks

  pub t_is : t_of u ≡ o.settings.interval
  t_is = interval_is u o.settings ok.chosen

  pub t_pos : 0 < t_of u
  t_pos = let a = t_is in let b = o.tagged.2 in omega arith

  pub back : j * t_of u / t_of u ≡ j
  back = mul-div_cancel j t_pos

  -- where the held bytes begin
  pub spot : 16 * (j * t_of u + j) ≡ 16 * (j * (o.settings.interval + 1))
  spot = let a = times_more j o.settings.interval in let b : j * t_of u ≡ j * o.settings.interval = ap (λ (n : ℕ). j * n) t_is in omega arith

  pub spot_le : 16 * (j * t_of u + j) ≤ length s
  spot_le = let a = spot in let b = o.stands.1 in let d = ok.counted in omega arith

  pub reads_more : Reads u (s ++ x) (j * t_of u) o.state
  reads_more = let a = spot_le in let b = back in reads_grown u s x (j * t_of u) o.state (omega arith) ok.reads

  -- the state stands behind j checks
  pub reads_behind : ReadsPast u (s ++ x) (j * t_of u) j o.state
  reads_behind = subst (λ (n : ℕ). ReadsPast u (s ++ x) (j * t_of u) n o.state) back reads_more

  pub checked_more : Checks u (s ++ x) j
  checked_more = checks_grown u s x j t_pos spot_le ok.checked

  pub counted_more : o.taken + length x ≡ length (s ++ x)
  counted_more = ap (λ (n : ℕ). n + length x) ok.counted ∙ sym (length-append s x)

  pub bytes_more : Bytes x → Bytes (s ++ x)
  bytes_more b = All-append (λ (n : ℕ). n < 256) s x ok.bytes b

  pub holds_more : (held' : List ℕ) → o.fill ≤ length o.held → held' ≡ take o.fill o.held ++ (x ++ drop (o.fill + length x) o.held) → take (o.fill + length x) held' ≡ drop (16 * (j * t_of u + j)) (s ++ x)
  holds_more held' h q =
      held_more o.held x held' o.fill (length x) h refl q ∙ ap (λ (z : List ℕ). z ++ x) ok.holds ∙ sym (drop-append-le (16 * (j * t_of u + j)) s x spot_le)

  -- a whole segment is held
  module _ (full : o.fill + length x ≡ 16 * o.settings.interval + 16) where
    pub there : (held' : List ℕ) → o.fill ≤ length o.held → held' ≡ take o.fill o.held ++ (x ++ drop (o.fill + length x) o.held) → There held' (s ++ x) (j * t_of u) j (16 * o.settings.interval + 16)
    there held' h q =
        let m : ℕ = 16 * o.settings.interval + 16 in
        let e : take m held' ≡ drop (16 * (j * t_of u + j)) (s ++ x) = ap (λ (n : ℕ). take n held') (sym full) ∙ holds_more held' h q in
        let d = length-drop (16 * (j * t_of u + j)) (s ++ x) in
        let a = counted_more in
        let b = spot in
        let c = o.stands.1 in
        let short : length (drop (16 * (j * t_of u + j)) (s ++ x)) ≤ m = omega arith in
        e ∙ sym (take_all m (drop (16 * (j * t_of u + j)) (s ++ x)) short)

    module _ (r : Reading) (one : r.checks ≡ j + 1) where
      next_is : r.checks * t_of u ≡ j * t_of u + t_of u
      next_is = ap (λ (n : ℕ). n * t_of u) (one ∙ add-one j) ∙ suc-mul j (t_of u)

      next_t : j * t_of u + o.settings.interval ≡ r.checks * t_of u
      next_t = let a = next_is in let b = t_is in omega arith

      pub reads_next : ReadsPast u (s ++ x) (j * t_of u + o.settings.interval) (suc j) r → Reads u (s ++ x) (r.checks * t_of u) r
      reads_next a =
          let q : suc j ≡ r.checks * t_of u / t_of u = sym (add-one j) ∙ sym one ∙ sym (mul-div_cancel r.checks t_pos) in
          subst (λ (n : ℕ). ReadsPast u (s ++ x) (r.checks * t_of u) n r) q (subst (λ (n : ℕ). ReadsPast u (s ++ x) n (suc j) r) next_t a)

      pub checked_next : Check u (s ++ x) (suc j) → Checks u (s ++ x) r.checks
      checked_next a = subst (Checks u (s ++ x)) (sym (one ∙ add-one j)) (checks_more u (s ++ x) j checked_more a)

      pub written_next : (w : List ℕ) → released u (s ++ x) (j * t_of u + o.settings.interval) ≡ released u (s ++ x) (j * t_of u) ++ w → released u (s ++ x) (r.checks * t_of u) ≡ released u (s ++ x) (j * t_of u) ++ w
      written_next w e = ap (released u (s ++ x)) (sym next_t) ∙ e

      pub holds_next : [] ≡ drop (16 * (r.checks * t_of u + r.checks)) (s ++ x)
      holds_next =
          let a = next_is in
          let b = counted_more in
          let c = spot in
          let d = o.stands.1 in
          let e = t_is in
          sym (drop_all (16 * (r.checks * t_of u + r.checks)) (s ++ x) (omega arith))

-- the end
module _ (u : Frame) (s : List ℕ) (o : Opener) (ok : Opening u s o) (full : o.size ≤ o.taken) where
  abbrev p : ℕ
  p = o.shape.blocks - o.shape.checks * o.settings.interval - 1

  abbrev k : ℕ
  k = mark_number o.mark

  abbrev i : ℕ
  i = o.state.checks * t_of u

  h_is : o.state.checks ≡ o.shape.checks
  h_is = full_checks o full

  i_is : i ≡ o.shape.checks * o.settings.interval
  i_is = ap (λ (n : ℕ). n * t_of u) h_is ∙ ap (λ (n : ℕ). o.shape.checks * n) (t_is u s [] o ok)

  all : suc (i + p) ≡ o.shape.blocks
  all = let a = i_is in let b = blocks_low o in let c = o.lies.0 in omega arith

  before : i + p ≡ pred o.shape.blocks
  before = let a = all in omega arith

  pub rest_there : take (16 * p + 16 + o.shape.tag) o.held ≡ drop (16 * (i + o.state.checks)) s
  rest_there =
      let f = full_fill o full in
      let b = blocks_low o in
      let c = o.lies.0 in
      let e : 16 * p + 16 + o.shape.tag ≡ o.fill = omega arith in
      ap (λ (n : ℕ). take n o.held) e ∙ ok.holds

  pub reads_here : ReadsPast u s i o.state.checks o.state
  reads_here = subst (λ (n : ℕ). ReadsPast u s i n o.state) (back u s [] o ok) ok.reads

  pub right_back : (q : ℕ) → Right u s k o.shape.blocks q → EndRight u s k (suc (i + p)) q
  right_back q x = subst (λ (n : ℕ). EndRight u s k n q) (sym all) (record { some = x.some; whole = x.whole; short = x.short; filled = x.filled; sized = x.sized; tagged = x.tagged })

  pub right_is : (q : ℕ) → EndRight u s k (suc (i + p)) q → Right u s k o.shape.blocks q
  right_is q e =
      let y : EndRight u s k o.shape.blocks q = subst (λ (n : ℕ). EndRight u s k n q) all e in
      let c : Checks u s (checks u o.shape.blocks) = subst (Checks u s) (h_is ∙ ok.laid.h_is) ok.checked in
      record { checked = c; some = y.some; whole = y.whole; short = y.short; filled = y.filled; sized = y.sized; tagged = y.tagged }

  pub opened_is : (q m : ℕ) (out' : List ℕ) → m ≡ 16 * p + q → Rest u s k i p q out' → released u s (o.shape.checks * t_of u) ++ take m out' ≡ opened u s k o.shape.blocks q
  opened_is q m out' em r =
      ap (λ (n : ℕ). released u s (n * t_of u) ++ take m out') (sym h_is) ∙ ap (λ (n : ℕ). released u s i ++ take n out') em ∙ r.written
      ∙ ap (λ (n : ℕ). released u s n ++ take q (bytes_of (last_r u s (suc (i + p)) k))) before
      ∙ ap (λ (n : ℕ). released u s (pred o.shape.blocks) ++ take q (bytes_of (last_r u s n k))) all
