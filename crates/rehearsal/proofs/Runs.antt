-- The part of an output that a call gets, and one call more on a run.
use Rattle.std.proofs.Common.{◌≡◌, ℕ, ◌+◌, ◌-◌, ◌<◌, ◌≤◌, min, List, [], ◌∷◌, ◌++◌, length, get_or, take, drop, set, sym, refl, ap, ◌∙◌, subst, le_refl, append_assoc, arith}
use borrow.Rule.Slice.PartMut.{put_mid, post_of}
use Rattle.std.proofs.Math.Seq.{drop-append-add}
use Rattle.std.proofs.lemmas.List.{append-nil, length-append, length-drop, length-take-le, length-take, drop-append-le, drop-drop, take-append-drop, take_more, take_more_set}
use Rattle.std.proofs.lemmas.Slice.{take-put_mid_below}
use Rattle.rehearsal.specs.declared.calls.Call.{Call}
use Rattle.rehearsal.specs.Calls.{room_of, Within, Wrote, Run}

-- n bytes at the front of the part of k bytes at pos
pub wrote : (out part : List ℕ) (pos k n : ℕ) → pos + k ≤ length out → length part ≡ length (take k (drop pos out)) → Within n (take k (drop pos out)) part → Wrote pos (pos + n) out (put_mid pos k out part)
wrote out part pos k n h len ok =
    let old : List ℕ = take k (drop pos out) in
    let behind : List ℕ = post_of pos k out in
    let fits = ok.fits in
    let p : pos ≤ length out = omega arith in
    let wide : length old ≡ k = length-take-le k (drop pos out) (rw length-drop (omega arith)) in
    record {
      after = omega arith;
      fits = omega arith;
      before = take-put_mid_below pos k out part pos (le_refl pos) p;
      rest = subst (λ (i : ℕ). drop (i + n) (put_mid pos k out part) ≡ drop (pos + n) out) (length-take-le pos out p)
          (drop-append-add (take pos out) (part ++ behind) n ∙ drop-append-le n part behind (omega arith) ∙ ap (λ (z : List ℕ). z ++ behind) ok.rest ∙ sym (drop-append-le n old behind fits)
          ∙ ap (drop n) (take-append-drop k (drop pos out)) ∙ drop-drop n pos out);
    }

-- more bytes behind those written before
pub within_more : (pos to : ℕ) (before out now : List ℕ) → Within pos before out → length out ≡ length before → Wrote pos to out now → Within to before now
within_more pos to before out now ok long w =
    let le = w.after in
    let fits = w.fits in
    let step : pos + (to - pos) ≡ to = omega arith in
    let past : drop to out ≡ drop to before =
    subst (λ (n : ℕ). drop n out ≡ drop n before) step (sym (drop-drop (to - pos) pos out) ∙ ap (drop (to - pos)) ok.rest ∙ drop-drop (to - pos) pos before) in
    record { fits = omega arith; rest = w.rest ∙ past }

module _ {S A : Type 0} (does : S → Call → ℕ → S → List ℕ → A → Type 0) where
  run_more : (c : Call) (x : A) (mid end : S) (more : List ℕ) (cs : List Call) (xs : List A) (s : S) (room : ℕ) (written : List ℕ) → length cs ≡ length xs → Run does s room cs xs mid written
      → does mid c (min (room_of c) (room - length written)) end more x → Run does s room (cs ++ (c ∷ [])) (xs ++ (x ∷ [])) end (written ++ more)
  run_more c x mid end more [] [] s room written e r d =
      let l : room - length written ≡ room = (let z : length written ≡ 0 = ap length r.1 in omega arith) in
      let d' : does s c (min (room_of c) (room - length written)) end more x = subst (λ (z : S). does z c (min (room_of c) (room - length written)) end more x) r.0 d in
      (end, more, [], subst (λ (n : ℕ). does s c (min (room_of c) n) end more x) l d', (refl, refl), ap (λ (z : List ℕ). z ++ more) r.1 ∙ sym (append-nil more))
  run_more c x mid end more [] (y ∷ ys) s room written e r d = absurd r
  run_more c x mid end more (b ∷ cs) [] s room written e r d = absurd r
  run_more c x mid end more (b ∷ cs) (y ∷ ys) s room written e (next, first, rest, one, run, all) d =
      let l : room - length written ≡ room - length first - length rest = (let z : length written ≡ length first + length rest = ap length all ∙ length-append first rest in omega arith) in
      let d' : does mid c (min (room_of c) (room - length first - length rest)) end more x = subst (λ (n : ℕ). does mid c (min (room_of c) n) end more x) l d in
      (next, first, rest ++ more, one, run_more c x mid end more cs ys next (room - length first) rest (omega arith) run d', ap (λ (z : List ℕ). z ++ more) all ∙ append_assoc first rest more)

  pub run_at_more : (c : Call) (x : A) (s mid end : S) (room : ℕ) (calls : List Call) (answers : List A) (i : ℕ) (written more : List ℕ) → i < length calls → i < length answers → c ≡ get_or calls i c
      → Run does s room (take i calls) (take i answers) mid written → does mid c (min (room_of c) (room - length written)) end more x
      → Run does s room (take (i + 1) calls) (take (i + 1) (set answers i x)) end (written ++ more)
  run_at_more c x s mid end room calls answers i written more hc ha read r d =
      let lens : length (take i calls) ≡ length (take i answers) = simp length-take (omega arith) in
      let cs : take i calls ++ (c ∷ []) ≡ take (i + 1) calls = ap (λ (z : Call). take i calls ++ (z ∷ [])) read ∙ sym (take_more calls i c hc) in
      let xs : take i answers ++ (x ∷ []) ≡ take (i + 1) (set answers i x) = sym (take_more_set answers i x ha) in
      let all = run_more c x mid end more (take i calls) (take i answers) s room written lens r d in
      subst (λ (z : List Call). Run does s room z (take (i + 1) (set answers i x)) end (written ++ more)) cs
      (subst (λ (z : List A). Run does s room (take i calls ++ (c ∷ [])) z end (written ++ more)) xs all)
