-- One call on an opener.
use Rattle.std.proofs.Common.{◌≡◌, ℕ, suc, ◌+◌, ◌-◌, ◌*◌, ◌<◌, ◌≤◌, min, Bool, true, false, cond, ◌&&◌, ltb, leb, List, [], ◌++◌, length, take, drop, Some, None, Ok, Err, Option, Result, sym, refl, ap, ◌∙◌, subst, inl, inr, ⊎_elim, le_refl, suc-mul, add-one, arith, length-append, length-take}
use Rattle.std.proofs.lemmas.List.{append-nil, length-take-le, nil_from_length}
use Rattle.std.proofs.lemmas.Bool.{cases_lt, cond-true, cond-false, lt-ltb, le-ltb, true≢false}
use Rattle.cipher.specs.Meaning.{Meaning}
use Rattle.elmd.specs.declared.refusal.Refusal.{Refusal}
use Rattle.elmd.specs.declared.refusal.Refusal.TheVariants as why
use Rattle.elmd.specs.Refusals.{mark_number}
use Rattle.elmd.specs.Stream.{Frame, t_of, checks, stream}
use Rattle.elmd.specs.Opening.{blocks_of, released, Check, Checks, Right, opened}
use Rattle.elmd.specs.Laws.{Begins, Sound, MessageOf, Extends, Sealed}
use Rattle.elmd.proofs.Extend.{extension, checks_hold}
use Rattle.elmd.proofs.Finish.{opening, finish}
use Rattle.elmd.proofs.Injective.{same_l, injectivity}
use Rattle.elmd.proofs.Steps.{growing}
use Rattle.opening.specs.declared.place.Opener.{Opener}
use Rattle.opening.specs.declared.place.Phase.{Phase}
use Rattle.opening.specs.declared.place.Phase.TheVariants as ph
use Rattle.opening.specs.Opener.{next_end, took, completes, put_call, finish_call, refusal, refused_at, last_room, Moved, Judged, EndJudged, PutDone, FinishDone, Opening, Lets, Closed, Puts, Finishes}
use Rattle.opening.proofs.Openings.{back, spot_le}
use Rattle.opening.proofs.Standings.{end_next, full_checks}
use Rattle.opening.proofs.Calls.{finish_open}
use Rattle.rehearsal.specs.declared.calls.Taken.TheVariants.{Took, Opened}
use Rattle.rehearsal.specs.Calls.{Within}
use Rattle.rehearsal.specs.OpenLaw.{Told, Progress, filling, spoiled, over, in_all, among, takes, more, completes_at, put_refusal_at, finish_refusal_at, Unless, PutTurn, FinishTurn, Stands, At, Released, PutDoes, FinishDoes, Plain, Checked, GoodCheck, BadCheck, Ends, GoodEnd, BadEnd}
use Rattle.rehearsal.specs.OpenLaw as law
use Rattle.rehearsal.proofs.Standings.{laid, t_eq, h_eq, j_eq, keeps_filling}

abbrev pub put_count : Result (ℕ × ℕ) Refusal → ℕ
put_count (Ok x) = x.1
put_count (Err e) = 0

abbrev pub put_answer : Result (ℕ × ℕ) Refusal → Told
put_answer (Ok x) = Ok (Took x.0 x.1)
put_answer (Err e) = Err e

abbrev pub end_count : Result ℕ Refusal → ℕ
end_count (Ok n) = n
end_count (Err e) = 0

abbrev pub end_answer : Result ℕ Refusal → Told
end_answer (Ok n) = Ok (Opened n)
end_answer (Err e) = Err e

pub option_cases : (v : Option Refusal) (P : Option Refusal → Type 0) → ((e : Refusal) → v ≡ Some e → P (Some e)) → (v ≡ None → P None) → P v
option_cases (Some e) P f g = f e refl
option_cases None P f g = g refl

pub bool_cases : (b : Bool) (P : Bool → Type 0) → (b ≡ true → P true) → (b ≡ false → P false) → P b
bool_cases true P f g = f refl
bool_cases false P f g = g refl

abbrev Out : (u : Frame) (S k : ℕ) (b : Progress) (o' : Opener) (n : ℕ) (out' : List ℕ) → (Progress → Type 0) → Type 0
Out u S k b o' n out' T = (a : Progress) × T a × At u S k a o' × (a.let_out ≡ b.let_out ++ take n out')

none_more : (w : List ℕ) (n : ℕ) (out : List ℕ) → n ≡ 0 → w ≡ w ++ take n out
none_more w n out e = sym (append-nil w) ∙ ap (λ (i : ℕ). w ++ take i out) (sym e)

-- a refusal
stays : (u : Frame) (S k : ℕ) (b : Progress) (o o' : Opener) (n : ℕ) (out' : List ℕ) (x : Told) (e : Refusal) → x ≡ Err e → o' ≡ o → n ≡ 0 → At u S k b o → Out u S k b o' n out' (λ a. (x ≡ Err e) × (a ≡ b))
stays u S k b o o' n out' x e ex eo en at = (b, (ex, refl), subst (At u S k b) (sym eo) at, none_more b.let_out n out' en)

-- a put that is not refused has its room
and_false : (a b : Bool) → a ≡ true → cond (a && b) (Some why.RoomShort) None ≡ None → b ≡ false
and_false true true e q = let z : ◌≡◌ {A = ℕ} 0 1 = cc in absurd (omega arith)
and_false true false e q = refl
and_false false b e q = absurd (true≢false (sym e))

first_none : (a : Bool) (e : Refusal) (v : Option Refusal) → cond a (Some e) v ≡ None → v ≡ None
first_none true e v q = let z : ◌≡◌ {A = ℕ} 0 1 = cc in absurd (omega arith)
first_none false e v q = q

room_at : (p : Phase) (o : Opener) (n room : ℕ) → refused_at p o (put_call n room) ≡ None → completes o n ≡ true → 16 * o.settings.interval ≤ room
room_at ph.Over o n room e t = let z : ◌≡◌ {A = ℕ} 0 1 = cc in absurd (omega arith)
room_at ph.Spoiled o n room e t = let z : ◌≡◌ {A = ℕ} 0 1 = cc in absurd (omega arith)
room_at ph.Filling o n room e t =
    let f = and_false (completes o n) (ltb room (16 * o.settings.interval)) t (first_none _ why.StreamComplete _ e) in
    ⊎_elim (λ lt. absurd (true≢false (sym (lt-ltb room (16 * o.settings.interval) lt) ∙ f))) (λ le. le) (cases_lt room (16 * o.settings.interval))

same_within : (n : ℕ) (out out' : List ℕ) → n ≡ 0 → out' ≡ out → Within n out out'
same_within n out out' e q = record { fits = omega arith; rest = ap (drop n) q }

judged_within : (o : Opener) (k : ℕ) (out : List ℕ) (r : Result (ℕ × ℕ) Refusal) (o' : Opener) (out' : List ℕ) → 16 * o.settings.interval ≤ length out → Judged o k out r o' out' → Within (put_count r) out out'
judged_within o k out (Ok x) o' out' h d =
    let e : x.1 ≡ 16 * o.settings.interval = ap (λ (q : ℕ × ℕ). q.1) d.0 in
    record { fits = omega arith; rest = ap (λ (n : ℕ). drop n out') e ∙ d.4 ∙ ap (λ (n : ℕ). drop n out) (sym e) }
judged_within o k out (Err e) o' out' h d = same_within 0 out out' refl d.4

pub put_within : (o : Opener) (n : ℕ) (out : List ℕ) (r : Result (ℕ × ℕ) Refusal) (o' : Opener) (out' : List ℕ) → PutDone o n out r o' out' → Within (put_count r) out out'
put_within o n out r o' out' d =
    option_cases (refusal o (put_call n (length out))) (λ _. Within (put_count r) out out')
    (λ e q. let z = d.refused e q in same_within (put_count r) out out' (ap put_count z.0) z.2)
    (λ q. bool_cases (completes o n) (λ _. Within (put_count r) out out')
    (λ t. judged_within o (took o n) out r o' out' (room_at o.phase o n (length out) q t) (d.judged q t))
    (λ f. let z = d.more q f in same_within (put_count r) out out' (ap put_count z.0) z.4))

end_within : (o : Opener) (out : List ℕ) (r : Result ℕ Refusal) (o' : Opener) (out' : List ℕ) → last_room o ≤ length out → EndJudged o out r o' out' → Within (end_count r) out out'
end_within o out (Ok n) o' out' h d = let a = d.0 in record { fits = omega arith; rest = d.4 }
end_within o out (Err e) o' out' h d = same_within 0 out out' refl d.4

pub finish_within : (o : Opener) (out : List ℕ) (r : Result ℕ Refusal) (o' : Opener) (out' : List ℕ) → FinishDone o out r o' out' → Within (end_count r) out out'
finish_within o out r o' out' d =
    option_cases (refusal o (finish_call (length out))) (λ _. Within (end_count r) out out')
    (λ e q. let z = d.refused e q in same_within (end_count r) out out' (ap end_count z.0) z.2)
    (λ q. end_within o out r o' out' (finish_open o (length out) (sym q)).1 (d.judged q))

five : {A : Type 0} (f : ℕ → ℕ → ℕ → ℕ → ℕ → A) (a b c d e a' b' c' d' e' : ℕ) → a ≡ a' → b ≡ b' → c ≡ c' → d ≡ d' → e ≡ e' → f a b c d e ≡ f a' b' c' d' e'
five f a b c d e a' b' c' d' e' p q r s t = cc

-- an opener that is filling
module _ (u : Frame) (S k : ℕ) (b : Progress) (o : Opener) (sound : Sound u) (at : At u S k b o) (st : Stands u S k filling b o) where
  abbrev s : List ℕ
  s = b.taken

  abbrev j : ℕ
  j = o.state.checks

  by_numbers : {A : Type 0} (f : ℕ → ℕ → ℕ → ℕ → ℕ → A) → f o.settings.interval o.shape.checks o.size j o.taken ≡ f (t_of u) (in_all u S k) S (among u S k (length s)) (length s)
  by_numbers f =
      five f o.settings.interval o.shape.checks o.size j o.taken (t_of u) (in_all u S k) S (among u S k (length s)) (length s)
      (t_eq u S k s o st.0 st.1 st.2) (h_eq u S k s o st.0 st.1 st.2) st.1 (j_eq u S k s o st.0 st.1 st.2) st.0.counted

  took_is : (piece : List ℕ) → took o (length piece) ≡ takes u S k b piece
  took_is piece = by_numbers (λ t h z i n. min (length piece) (Rattle.opening.specs.Standing.end_of t h z i - n))

  put_refusal_is : (n room : ℕ) → refusal o (put_call n room) ≡ put_refusal_at (t_of u) (in_all u S k) S (among u S k (length s)) (length s) n room
  put_refusal_is n room = ap (λ (p : Phase). refused_at p o (put_call n room)) st.0.filling ∙ by_numbers (λ t h z i m. put_refusal_at t h z i m n room)

  completes_is : (n : ℕ) → completes o n ≡ completes_at (t_of u) (in_all u S k) S (among u S k (length s)) (length s) n
  completes_is n = by_numbers (λ t h z i m. completes_at t h z i m n)

  finish_refusal_is : (room : ℕ) → refusal o (finish_call room) ≡ finish_refusal_at (t_of u) (in_all u S k) (blocks_of u S) S (length s) room
  finish_refusal_is room =
      ap (λ (p : Phase). refused_at p o (finish_call room)) st.0.filling ∙ by_numbers (λ t h z i m. finish_refusal_at t h o.shape.blocks z m room)
      ∙ ap (λ (l : ℕ). finish_refusal_at (t_of u) (in_all u S k) l S (length s) room) (laid u S k s o st.0 st.1 st.2).l_is

  module _ (piece : List ℕ) where
    abbrev s' : List ℕ
    s' = more u S k b piece

    s_is : s ++ take (took o (length piece)) piece ≡ s'
    s_is = ap (λ (n : ℕ). s ++ take n piece) (took_is piece)

    abbrev gone : (m : ℕ) (out' : List ℕ) → Progress
    gone m out' = record { phase = filling; taken = s'; let_out = b.let_out ++ take m out' }

    grown : (m n : ℕ) (o' : Opener) (out' : List ℕ) → Opening u s' o' → released u s' (o'.state.checks * t_of u) ≡ released u s' (j * t_of u) ++ take m out' → Moved o n o' → At u S k (gone m out') o'
    grown m n o' out' op rel mv =
        let sp = spot_le u s [] o st.0 in
        let bk = back u s [] o st.0 in
        let g : released u s (j * t_of u) ≡ released u s' (j * t_of u) = ((growing u s s' (take (takes u S k b piece) piece, refl)).states (j * t_of u) (omega arith)).1 in
        let eq : b.let_out ++ take m out' ≡ released u s' (o'.state.checks * t_of u) = ap (λ (z : List ℕ). z ++ take m out') (st.3 ∙ g) ∙ sym rel in
        let es' : o'.size ≡ S = mv.size_kept ∙ st.1 in
        let ek' : mark_number o'.mark ≡ k = ap mark_number mv.mark_kept ∙ st.2 in
        record {
          stands = (op, es', ek', eq);
          keeps = λ w hw bg. subst (λ (z : List ℕ). Begins z w) (sym eq) (keeps_filling u S k s' o' op es' ek' sound w hw bg);
        }

    module _ (t : completes o (length piece) ≡ true) where
      lt : j < o.shape.checks
      lt = ⊎_elim (λ x. x) (λ le. absurd (true≢false (sym t ∙ cond-false (ltb j o.shape.checks) (leb (next_end o - o.taken) (length piece)) false (le-ltb j o.shape.checks le)))) (cases_lt j o.shape.checks)

      enough : next_end o - o.taken ≤ length piece
      enough = Rattle.std.proofs.lemmas.Bool.leb-true (next_end o - o.taken) (length piece) (sym (cond-true (ltb j o.shape.checks) (leb (next_end o - o.taken) (length piece)) false (lt-ltb j o.shape.checks lt)) ∙ t)

      -- the bytes through the check
      full : length s' ≡ 16 * (suc j * t_of u + suc j)
      full =
          let e = end_next o lt in
          let n = enough in
          let q = took_is piece in
          let tk : took o (length piece) ≡ next_end o - o.taken = omega arith in
          let le = Rattle.opening.proofs.Standings.taken_le o in
          let c = st.0.counted in
          let m = Rattle.opening.proofs.Standings.times_more j o.settings.interval in
          let te = t_eq u S k s o st.0 st.1 st.2 in
          let jt : j * o.settings.interval ≡ j * t_of u = ap (λ (x : ℕ). j * x) te in
          let sm = suc-mul j (t_of u) in
          simp (length-append, length-take) (omega arith)

      most : suc j ≤ checks u (blocks_of u S)
      most = let h = h_eq u S k s o st.0 st.1 st.2 in let l = lt in omega arith

      good : (r : ℕ) → r ≡ j + 1 → Checks u s' r → Rattle.block.specs.Bytes.Bytes s' → Extends u S k s'
      good r e c by =
          let m = (laid u S k s o st.0 st.1 st.2).possible in
          (extension u sound S k m.0 m.1 (suc j) s' by most full).0 (subst (Checks u s') (e ∙ add-one j) c)

      bad : (Check u s' (suc j) → ⊥) → Extends u S k s' → ⊥
      bad never (m, hm, bg) =
          let l = same_l u S k m hm in
          let f = full in
          never (checks_hold u sound m s' (suc j) hm.bytes hm.some (subst (λ (x : ℕ). suc j ≤ checks u x) (sym l) most) (omega arith) bg (suc j) (omega arith) (le_refl (suc j)))

      judge : (out : List ℕ) (r : Result (ℕ × ℕ) Refusal) (o' : Opener) (out' : List ℕ) → Within (put_count r) out out' → length out' ≡ length out → Judged o (took o (length piece)) out r o' out' → Lets u o s' r o' out'
          → Out u S k b o' (put_count r) out' (Checked u S k b piece (put_answer r))
      judge out (Ok x) o' out' w len d (op, rel) =
          let e0 : x.0 ≡ takes u S k b piece = ap (λ (q : ℕ × ℕ). q.0) d.0 ∙ took_is piece in
          let e1 : x.1 ≡ 16 * t_of u = ap (λ (q : ℕ × ℕ). q.1) d.0 ∙ ap (λ (n : ℕ). 16 * n) (t_eq u S k s o st.0 st.1 st.2) in
          let wf = w.fits in
          let g : GoodCheck u S k b piece (Ok (Took x.0 x.1)) (gone x.1 out') = record {
            extends = good o'.state.checks d.3 op.checked op.bytes;
            answer = cc;
            phase_is = refl;
            blocks = (take x.1 out', length-take-le x.1 out' (omega arith) ∙ e1, refl);
            genuine = (grown x.1 _ o' out' op rel d.1).keeps;
          } in
          (gone x.1 out', record { taken_is = refl; judged = inl g }, grown x.1 _ o' out' op rel d.1, refl)
      judge out (Err e) o' out' w len d never =
          let a : Progress = record { phase = spoiled; taken = s'; let_out = b.let_out } in
          let g : BadCheck u S k b piece (Err e) a = record {
            no_message = bad never;
            answer = ap Err d.0 ∙ ap (λ (n : ℕ). Err (why.BadCheck (n + 1))) (j_eq u S k s o st.0 st.1 st.2);
            phase_is = refl;
            none = refl;
          } in
          (a, record { taken_is = refl; judged = inr g }, record { stands = d.2; keeps = λ m hm bg. absurd (bad never (m, hm, bg)) }, none_more b.let_out 0 out' refl)

    put_plain : (out : List ℕ) (r : Result (ℕ × ℕ) Refusal) (o' : Opener) (out' : List ℕ) → r ≡ Ok (took o (length piece), 0) → Moved o (took o (length piece)) o' → Lets u o s' r o' out'
        → Out u S k b o' (put_count r) out' (Plain u S k b piece (put_answer r))
    put_plain out (Err e) o' out' q mv le = let z : ◌≡◌ {A = ℕ} 0 1 = cc in absurd (omega arith)
    put_plain out (Ok x) o' out' q mv (op, rel) =
        let ex : x ≡ (took o (length piece), 0) = cc in
        let e0 : x.0 ≡ takes u S k b piece = ap (λ (p : ℕ × ℕ). p.0) ex ∙ took_is piece in
        let e1 : x.1 ≡ 0 = ap (λ (p : ℕ × ℕ). p.1) ex in
        (gone x.1 out', record { taken_is = refl; answer = cc; phase_is = refl; none = sym (none_more b.let_out x.1 out' e1) }, grown x.1 _ o' out' op rel mv, refl)

    put_filling : (M : Meaning) (out : List ℕ) (r : Result (ℕ × ℕ) Refusal) (o' : Opener) (out' : List ℕ) → u.cipher ≡ M → length out' ≡ length out → PutDone o (length piece) out r o' out' → Puts M o piece out r o' out'
        → Out u S k b o' (put_count r) out' (λ a. PutTurn u S k filling b piece (length out) (put_answer r) a)
    put_filling M out r o' out' ec len d p =
        let n : ℕ = length piece in
        let room : ℕ = length out in
        let R : Option Refusal = put_refusal_at (t_of u) (in_all u S k) S (among u S k (length s)) (length s) n room in
        let B : Bool = completes_at (t_of u) (in_all u S k) S (among u S k (length s)) (length s) n in
        option_cases R (λ v. Out u S k b o' (put_count r) out' (λ a. Unless v b (put_answer r) a (law.Puts u S k B b piece (put_answer r) a)))
        (λ e q. let z = d.refused e (put_refusal_is n room ∙ q) in stays u S k b o o' (put_count r) out' (put_answer r) e (ap put_answer z.0) z.1 (ap put_count z.0) at)
        (λ q.
        let none : refusal o (put_call n room) ≡ None = put_refusal_is n room ∙ q in
        let lets : Lets u o s' r o' out' = subst (λ (z : List ℕ). Lets u o z r o' out') s_is (p u s ec st.0 none) in
        bool_cases B (λ v. Out u S k b o' (put_count r) out' (λ a. law.Puts u S k v b piece (put_answer r) a))
        (λ t. judge (completes_is n ∙ t) out r o' out' (put_within o n out r o' out' d) len (d.judged none (completes_is n ∙ t)) lets)
        (λ f. let z = d.more none (completes_is n ∙ f) in put_plain out r o' out' z.0 z.1 lets))

  -- a message whose stream begins with a whole stream of that length is its message
  over_keeps : (m out' : List ℕ) (n : ℕ) → b.let_out ++ take n out' ≡ m → MessageOf u S k m → stream u m ≡ s → length s ≡ S → (x : List ℕ) → MessageOf u S k x → Begins s (stream u x) → Begins (b.let_out ++ take n out') x
  over_keeps m out' n e hm em ns x hx (rest, g) =
      let z : length rest ≡ 0 = (let a = sym (length-append s rest) ∙ ap length g ∙ hx.size in omega arith) in
      let nil : rest ≡ [] = nil_from_length rest z in
      let same : stream u x ≡ s = sym g ∙ ap (λ (y : List ℕ). s ++ y) nil ∙ append-nil s in
      ([], append-nil (b.let_out ++ take n out') ∙ e ∙ injectivity u sound S k m x hm hx (em ∙ sym same))

  end_judge : (out : List ℕ) (r : Result ℕ Refusal) (o' : Opener) (out' : List ℕ) → length out' ≡ length out → o.size ≤ o.taken → Within (end_count r) out out' → EndJudged o out r o' out' → Closed u o s r out'
      → Out u S k b o' (end_count r) out' (Ends u S k b (end_answer r))
  end_judge out (Ok n) o' out' len le w d (q, right, all) =
      let la = laid u S k s o st.0 st.1 st.2 in
      let l : ℕ = blocks_of u S in
      let pm = la.possible in
      let ns : length s ≡ S = (let a = st.0.counted in let c = st.1 in let e = o.within.0 in omega arith) in
      let right1 : Right u s k l q = subst (λ (x : ℕ). Right u s x l q) st.2 (subst (λ (x : ℕ). Right u s (mark_number o.mark) x q) la.l_is right) in
      let m : List ℕ = opened u s k l q in
      let f = opening u sound S k pm.0 pm.1 s st.0.bytes ns q right1 in
      let hc = full_checks o le in
      let out-is : b.let_out ++ take n out' ≡ m =
      ap (λ (z : List ℕ). z ++ take n out') (st.3 ∙ ap (λ (i : ℕ). released u s (i * t_of u)) hc) ∙ all
      ∙ ap (λ (x : ℕ). opened u s (mark_number o.mark) x q) la.l_is ∙ ap (λ (x : ℕ). opened u s x l q) st.2 in
      let wf = w.fits in
      let tl : length (take n out') ≡ n = length-take-le n out' (omega arith) in
      let size : n ≡ length m - length b.let_out = (let e = sym (length-append b.let_out (take n out')) ∙ ap length out-is in omega arith) in
      let a : Progress = record { phase = over; taken = s; let_out = b.let_out ++ take n out' } in
      let g : GoodEnd u S k b (Ok (Opened n)) a = record { message = m; of = f.0; whole = f.1; answer = ap (λ (x : ℕ). Ok (Opened x)) size; phase_is = refl; all = out-is } in
      (a, record { taken_is = refl; judged = inl g }, record { stands = d.3; keeps = λ x hx bg. over_keeps m out' n out-is f.0 f.1 ns x hx bg }, refl)
  end_judge out (Err e) o' out' len le w d never =
      let la = laid u S k s o st.0 st.1 st.2 in
      let l : ℕ = blocks_of u S in
      let pm = la.possible in
      let ns : length s ≡ S = (let a = st.0.counted in let c = st.1 in let e = o.within.0 in omega arith) in
      let a : Progress = record { phase = spoiled; taken = s; let_out = b.let_out } in
      let none : Sealed u S k s → ⊥ = λ x.
      let y = (finish u sound S k pm.0 pm.1 s st.0.bytes ns).1 x in
      never y.0 (subst (λ (z : ℕ). Right u s z o.shape.blocks y.0) (sym st.2) (subst (λ (z : ℕ). Right u s k z y.0) (sym la.l_is) y.1)) in
      let g : BadEnd u S k b (Err e) a = record { no_message = none; answer = ap Err d.0; phase_is = refl; none = refl } in
      (a, record { taken_is = refl; judged = inr g }, record { stands = d.2; keeps = at.keeps }, none_more b.let_out 0 out' refl)

  finish_filling : (M : Meaning) (out : List ℕ) (r : Result ℕ Refusal) (o' : Opener) (out' : List ℕ) → u.cipher ≡ M → length out' ≡ length out → FinishDone o out r o' out' → Finishes M o out r out'
      → Out u S k b o' (end_count r) out' (λ a. FinishTurn u S k filling b (length out) (end_answer r) a)
  finish_filling M out r o' out' ec len d p =
      let room : ℕ = length out in
      option_cases (finish_refusal_at (t_of u) (in_all u S k) (blocks_of u S) S (length s) room) (λ v. Out u S k b o' (end_count r) out' (λ a. Unless v b (end_answer r) a (Ends u S k b (end_answer r) a)))
      (λ e q. let z = d.refused e (finish_refusal_is room ∙ q) in stays u S k b o o' (end_count r) out' (end_answer r) e (ap end_answer z.0) z.1 (ap end_count z.0) at)
      (λ q.
      let none : refusal o (finish_call room) ≡ None = finish_refusal_is room ∙ q in
      end_judge out r o' out' len (finish_open o room (sym none)).0 (finish_within o out r o' out' d) (d.judged none) (p u s ec st.0 none))

module _ (M : Meaning) (o : Opener) (out : List ℕ) (o' : Opener) (out' : List ℕ) (len : length out' ≡ length out) where
  put_at : (piece : List ℕ) (r : Result (ℕ × ℕ) Refusal) → PutDone o (length piece) out r o' out' → Puts M o piece out r o' out'
      → (u : Frame) (S k : ℕ) (b : Progress) → u.cipher ≡ M → Sound u → At u S k b o → (p : law.Phase) → Stands u S k p b o
      → Out u S k b o' (put_count r) out' (λ a. PutTurn u S k p b piece (length out) (put_answer r) a)
  put_at piece r d p u S k b ec sound at filling st = put_filling u S k b o sound at st piece M out r o' out' ec len d p
  put_at piece r d p u S k b ec sound at spoiled st =
      let z = d.refused why.Spoiled (ap (λ (x : Phase). refused_at x o (put_call (length piece) (length out))) st) in
      stays u S k b o o' (put_count r) out' (put_answer r) why.Spoiled (ap put_answer z.0) z.1 (ap put_count z.0) at
  put_at piece r d p u S k b ec sound at over st =
      let z = d.refused why.Over (ap (λ (x : Phase). refused_at x o (put_call (length piece) (length out))) st) in
      stays u S k b o o' (put_count r) out' (put_answer r) why.Over (ap put_answer z.0) z.1 (ap put_count z.0) at

  pub put_does : (piece : List ℕ) (r : Result (ℕ × ℕ) Refusal) → PutDone o (length piece) out r o' out' → Puts M o piece out r o' out' → PutDoes M o piece (length out) o' (take (put_count r) out') (put_answer r)
  put_does piece r d p u S k b ec sound at = put_at piece r d p u S k b ec sound at b.phase at.stands

  finish_at : (r : Result ℕ Refusal) → FinishDone o out r o' out' → Finishes M o out r out'
      → (u : Frame) (S k : ℕ) (b : Progress) → u.cipher ≡ M → Sound u → At u S k b o → (p : law.Phase) → Stands u S k p b o
      → Out u S k b o' (end_count r) out' (λ a. FinishTurn u S k p b (length out) (end_answer r) a)
  finish_at r d p u S k b ec sound at filling st = finish_filling u S k b o sound at st M out r o' out' ec len d p
  finish_at r d p u S k b ec sound at spoiled st =
      let z = d.refused why.Spoiled (ap (λ (x : Phase). refused_at x o (finish_call (length out))) st) in
      stays u S k b o o' (end_count r) out' (end_answer r) why.Spoiled (ap end_answer z.0) z.1 (ap end_count z.0) at
  finish_at r d p u S k b ec sound at over st =
      let z = d.refused why.Over (ap (λ (x : Phase). refused_at x o (finish_call (length out))) st) in
      stays u S k b o o' (end_count r) out' (end_answer r) why.Over (ap end_answer z.0) z.1 (ap end_count z.0) at

  pub finish_does : (r : Result ℕ Refusal) → FinishDone o out r o' out' → Finishes M o out r out' → FinishDoes M o (length out) o' (take (end_count r) out') (end_answer r)
  finish_does r d p u S k b ec sound at = finish_at r d p u S k b ec sound at b.phase at.stands
