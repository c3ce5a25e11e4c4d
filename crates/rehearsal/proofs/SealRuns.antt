-- A list of calls on a sealer.
use Rattle.std.proofs.Common.{◌≡◌, ℕ, zero, suc, ◌-◌, ◌*◌, ◌%◌, ◌<◌, ◌≤◌, min, Bool, cond, eqb, ◌⊎◌, List, [], ◌∷◌, ◌++◌, length, take, drop, Some, None, Ok, Err, Option, sym, refl, ap, ◌∙◌, subst, inl, inr, append_assoc, arith}
use Rattle.std.proofs.lemmas.List.{append-nil, length-append}
use Rattle.cipher.specs.Meaning.{Meaning}
use Rattle.elmd.specs.declared.refusal.Mark.{Mark}
use Rattle.elmd.specs.declared.settings.Settings.{Settings}
use Rattle.elmd.specs.declared.state.ClosedHeading.{ClosedHeading}
use Rattle.elmd.specs.Heading.{Closes}
use Rattle.elmd.specs.Laws.{Begins, inner_x}
use Rattle.elmd.specs.Refusals.{mark_of}
use Rattle.elmd.specs.Stream.{Frame, f_of, blocks, mark, places, stream}
use Rattle.elmd.proofs.Agree.{streaming}
use Rattle.elmd.proofs.Counts.{interval_is, short_is, marked_is}
use Rattle.elmd.proofs.Extend.{places_begin}
use Rattle.elmd.proofs.Steps.{absorbing}
use Rattle.sealing.specs.declared.begun.Sealer.{Sealer}
use Rattle.sealing.specs.Handing.{sealed_blocks}
use Rattle.sealing.specs.Sealer.{Sealing}
use Rattle.rehearsal.specs.declared.calls.Call.{Call}
use Rattle.rehearsal.specs.declared.calls.Given.TheVariants.{Handed, Sealed}
use Rattle.rehearsal.specs.Calls.{Within, Run, made}
use Rattle.rehearsal.specs.SealLaw.{Told, Stage, taking, over, handed_in, accepted_in, after, answers_of, accepted, Finishes, Answered, SealerLaw, stage_of, Keeps, Stands, output, Does, SealerDoes}

-- the sealer that is held
pub does_by : (m : Meaning) (held held' : Option Sealer) (s : Sealer) (room : ℕ) (c c' : Call) (written : List ℕ) (a : Told) → held ≡ Some s → c ≡ c'
    → Does m s.settings s.n (Some s) held' room c' written a → SealerDoes m held c room held' written a
does_by m held held' s room c c' written a eh ec d st n k =
    let keeps : Keeps st n (Some s) = subst (Keeps st n) eh k in
    subst (λ (x : Settings). Does m x n held held' room c written a) keeps.0
    (subst (λ (x : ℕ). Does m s.settings x held held' room c written a) keeps.1
    (subst (λ (x : Option Sealer). Does m s.settings s.n x held' room c written a) (sym eh)
    (subst (λ (x : Call). Does m s.settings s.n (Some s) held' room x written a) (sym ec) d)))

finishes_in : (x : Told) (xs : List Told) (k : Mark) → Finishes (x ∷ xs) k → Finishes (x ∷ []) k ⊎ Finishes xs k
finishes_in (Ok (Handed w)) xs k f = inr f
finishes_in (Ok (Sealed w m)) xs k f = inl f
finishes_in (Err e) xs k f = inr f

-- what a run comes to, call by call
record Comes (m : Meaning) (st : Settings) (n : ℕ) (held held' : Option Sealer) (room : ℕ) (cs : List Call) (xs : List Told) (written : List ℕ) : Type 0 where
  pub told : xs ≡ answers_of st.interval st.short_tag n (stage_of held) room cs
  pub kept : Keeps st n held'
  pub stays_over : stage_of held ≡ over → stage_of held' ≡ over
  pub ended : (k : Mark) → Finishes xs k → (stage_of held' ≡ over) × (k ≡ mark_of (cond (eqb (n % 16) 0) 1 0))
  pub bytes : (u : Frame) (acc : List ℕ) → u.cipher ≡ m → Stands n u acc held → Stands n u (acc ++ accepted cs xs) held' × (output u (acc ++ accepted cs xs) held' ≡ output u acc held ++ written)

comes : (m : Meaning) (st : Settings) (n : ℕ) (held' : Option Sealer) (cs : List Call) (xs : List Told) (held : Option Sealer) (room : ℕ) (written : List ℕ) → Keeps st n held → Run (SealerDoes m) held room cs xs held' written
    → Comes m st n held held' room cs xs written
comes m st n held' [] [] held room written k r = record {
  told = refl;
  kept = subst (Keeps st n) (sym r.0) k;
  stays_over = λ z. ap stage_of r.0 ∙ z;
  ended = λ x f. absurd f;
  bytes = λ u acc ec o.
      let B : Option Sealer → List ℕ → List ℕ → Type 0 = λ h x w. Stands n u x h × (output u x h ≡ output u acc held ++ w) in
      subst (λ (h : Option Sealer). B h (acc ++ []) written) (sym r.0) (subst (B held (acc ++ [])) (sym r.1) (subst (λ (x : List ℕ). B held x []) (sym (append-nil acc)) (o, sym (append-nil (output u acc held)))));
}
comes m st n held' [] (x ∷ xs) held room written k r = absurd r
comes m st n held' (c ∷ cs) [] held room written k r = absurd r
comes m st n held' (c ∷ cs) (x ∷ xs) held room written k (next, first, rest, one, run, all) =
    let t : ℕ = st.interval in
    let f : Bool = st.short_tag in
    let s : Stage = stage_of held in
    let d = one st n k in
    let later = comes m st n held' cs xs next (room - length first) rest d.kept run in
    record {
      told = ap (λ (z : List Told). x ∷ z)
          (later.told ∙ ap (λ (z : Stage). answers_of t f n z (room - length first) cs) d.next ∙ ap (λ (i : ℕ). answers_of t f n (after s c x) (room - i) cs) d.count)
          ∙ ap (λ (z : Told). z ∷ answers_of t f n (after s c z) (room - handed_in z) cs) d.answer;
      kept = later.kept;
      stays_over = λ z. later.stays_over (d.next ∙ ap (λ (y : Stage). after y c x) z);
      ended = λ y g.
          let way : Finishes (x ∷ []) y ⊎ Finishes xs y = finishes_in x xs y g in
          elim way [ inl h ↦ (later.stays_over (d.ended y h).0, (d.ended y h).1) | inr h ↦ later.ended y h ];
      bytes = λ u acc ec o.
          let b = d.bytes u acc ec o in
          let l = later.bytes u (acc ++ accepted_in c x) ec b.0 in
          subst (λ (z : List ℕ). Stands n u z held' × (output u z held' ≡ output u acc held ++ written)) (append_assoc acc (accepted_in c x) (accepted cs xs))
          (l.0, l.1 ∙ ap (λ (z : List ℕ). z ++ rest) b.1 ∙ append_assoc (output u acc held) first rest ∙ ap (λ (z : List ℕ). output u acc held ++ z) (sym all));
    }

whole_begin : (a m : List ℕ) → Begins a m → length a ≡ length m → a ≡ m
whole_begin a m ([], e) l = sym (append-nil a) ∙ e
whole_begin a m (x ∷ xs, e) l = absurd (omega (arith, simp length-append at (ap length e)))

handed_by : (u : Frame) (st : Settings) (n : ℕ) (acc m written : List ℕ) (held : Option Sealer) → 1 ≤ n → Keeps st n held → Stands n u acc held → output u acc held ≡ written → length m ≡ n → Begins acc m
    → Begins written (stream u m)
handed_by u st n acc m written (Some s) h k o e l b =
    let q : ℕ = sealed_blocks s.n s.k in
    let size = o.size in
    let fits : 16 * q ≤ length acc = omega arith in
    let same-n = k.1 in
    let inner : q < blocks m = omega arith in
    subst (λ (z : List ℕ). Begins z (stream u m)) ((streaming u m q inner).0 ∙ sym (absorbing u acc m q b fits).0 ∙ e) (places_begin u m q inner)
handed_by u st n acc m written None h k o e l b =
    ([], append-nil written ∙ sym e ∙ ap (stream u) (whole_begin acc m b (o ∙ sym l)))

whole_by : (u : Frame) (n : ℕ) (acc written : List ℕ) (held : Option Sealer) (k : Mark) → Stands n u acc held → output u acc held ≡ written → stage_of held ≡ over → k ≡ mark_of (cond (eqb (n % 16) 0) 1 0)
    → (length acc ≡ n) × (written ≡ stream u acc) × (k ≡ mark_of (mark acc))
whole_by u n acc written (Some s) k o e z ek = let no : ◌≡◌ {A = ℕ} 0 1 = cc in absurd (omega arith)
whole_by u n acc written None k o e z ek = (o, sym e, marked_is acc k (ek ∙ ap (λ (i : ℕ). mark_of (cond (eqb (i % 16) 0) 1 0)) (sym o)))

-- the calls that are made are those that bytes are accepted of
accepted_made : (cs : List Call) (xs : List Told) (k : ℕ) → k ≡ min (length cs) (length xs) → accepted (take k cs) (take k xs) ≡ accepted cs xs
accepted_made [] xs zero e = refl
accepted_made [] xs (suc k) e = refl
accepted_made (c ∷ cs) [] zero e = refl
accepted_made (c ∷ cs) [] (suc k) e = refl
accepted_made (c ∷ cs) (x ∷ xs) zero e = absurd (omega arith)
accepted_made (c ∷ cs) (x ∷ xs) (suc k) e = ap (λ (z : List ℕ). accepted_in c x ++ z) (accepted_made cs xs k (omega arith))

-- the whole list, from a begun sealer
module _ (m : Meaning) (s : Sealer) (held : Option Sealer) (st : Settings) (n : ℕ) (calls : List Call) (answers answers' : List Told) (out out' : List ℕ) (w : ℕ) (es : s.settings ≡ st) (en : s.n ≡ n) (ek : s.k ≡ 0)
    (run : Run (SealerDoes m) (Some s) (length out) (take (made calls answers) calls) (take (made calls answers) answers') held (take w out')) (untouched : drop (made calls answers) answers' ≡ drop (made calls answers) answers) (ok : Within w out out') where
  abbrev k : ℕ
  k = made calls answers

  abbrev come : Comes m st n (Some s) held (length out) (take k calls) (take k answers') (take w out')
  come = comes m st n held (take k calls) (take k answers') (Some s) (length out) (take w out') (es, en) run

  pub answered : Answered st.interval st.short_tag n calls answers answers' out out' w
  answered = record {
    answered = subst (λ (x : ℕ). take k answers' ≡ answers_of st.interval st.short_tag n (taking x) (length out) (take k calls)) ek come.told;
    untouched = untouched;
    rest = ok.rest;
    within = ok.fits;
  }

  pub law_holds : (u : Frame) (h : ClosedHeading) → st ≡ h.settings → length answers' ≡ length answers → u.cipher ≡ m → Closes u h → Sealing u [] s → SealerLaw u n calls answers answers' out out' w
  law_holds u h eh long ec closes o =
      let acc : List ℕ = accepted calls answers' in
      let all : accepted (take k calls) (take k answers') ≡ acc = accepted_made calls answers' k (ap (min (length calls)) (sym long)) in
      let did : Stands n u acc held × (output u acc held ≡ output u [] (Some s) ++ take w out')
      = subst (λ (x : List ℕ). Stands n u x held × (output u x held ≡ output u [] (Some s) ++ take w out')) all (come.bytes u [] ec o) in
      let none : sealed_blocks s.n s.k ≡ 0 = omega arith in
      let written : output u acc held ≡ take w out' = did.1 ∙ ap (λ (i : ℕ). places u (inner_x u []) i ++ take w out') none in
      let A : ℕ → Bool → Type 0 = λ t f. take k answers' ≡ answers_of t f n (taking 0) (length out) (take k calls) in
      let a : A h.settings.interval h.settings.short_tag = subst (λ (x : Settings). A x.interval x.short_tag) eh answered.answered in
      let some : 1 ≤ n = (let p = s.some in omega (arith, p)) in
      record {
        answered = subst (λ (t : ℕ). A t (eqb (f_of u) 1)) (sym (interval_is u h.settings closes.chosen)) (subst (A h.settings.interval) (sym (short_is u h.settings closes.chosen)) a);
        handed = λ x l b. handed_by u st n acc x (take w out') held some come.kept did.0 written l b;
        whole = λ x f.
            let e = come.ended x f in
            whole_by u n acc (take w out') held x did.0 written e.0 e.1;
        rest = (ok.fits, ok.rest, untouched);
      }
