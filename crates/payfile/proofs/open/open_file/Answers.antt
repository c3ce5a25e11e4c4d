use Rattle.std.proofs.Common.{◌≡◌, ℕ, ◌+◌, ◌-◌, take, drop, Ok, Err, Result, sym, ap, ◌∙◌, subst, arith, rules}
use Rattle.std.proofs.lemmas.List.{take_rest}
use Rattle.std.proofs.lemmas.Result.{err_from_is_err_and}
use Rattle.elmd.specs.Heading.{frame_of}
use Rattle.payfile.specs.declared.refusal.FileRefusal.{FileRefusal}
use Rattle.payfile.specs.Refusals.{of_seal}
use Rattle.payfile.specs.Open.{FileOpened}
use Rattle.payfile.specs.Layout.{frame_in, settings_in, label_answer, heading_size}
use Rattle.payfile.proofs.Files.{all_bytes}
use Rattle.payfile.proofs.Opened.{judged, exactly}
use Rattle.payfile.proofs.open.open_file.Given as given
use Rattle.payfile.proofs.open.open_file.Goals as goal
use Rattle.payfile.proofs.open.open_file.Goals.{After-open}

pub returns-in_err-front-clause-exactly : goal.returns-in_err-front-clause-exactly
returns-in_err-front-clause-exactly g c = exactly _ c.args.file.now (all_bytes c.args.file.now c.type_inv.file) _ _ _ (search rules)

pub returns-in_err-file_settings-clause-exactly : goal.returns-in_err-file_settings-clause-exactly
returns-in_err-file_settings-clause-exactly g c = exactly _ c.args.file.now (all_bytes c.args.file.now c.type_inv.file) _ _ _ (search rules)

-- the seal was opened, and its answer is the file's
core : (g : given.Over) (c : After-open g) → FileOpened (g.C.Cipher.meaning c.args.c.now) c.args.file.now c.args.out.now (of_seal c.open.result) c.open.new.out
core g c =
    let m = g.C.Cipher.meaning c.args.c.now in
    let file = c.args.file.now in
    let front = c.in_ok-front.front in
    let f = c.in_ok-front.ensures.front in
    let label : Ok tt ≡ label_answer m.label (settings_in file) =
    c.in_ok-file_settings.ensures.answer ∙ ap (λ (l : ℕ). label_answer l front.settings) c.label.ensures.value ∙ ap (label_answer m.label) f.settings_is in
    let settings = f.settings_is in
    let nonce = f.nonce_is in
    let heading = f.heading_is in
    let same = c.label.ensures.same in
    let size : 26 + front.heading - 26 ≡ heading_size file = omega arith in
    let frame : frame_of (g.C.Cipher.meaning c.label.new.self) front.settings front.nonce (take (26 + front.heading - 26) (drop 26 file)) ≡ frame_in m file = cc in
    judged m file c.args.out.now c.open.result c.open.new.out _ _ _ frame (take_rest file (26 + front.heading) ∙ ap (λ (n : ℕ). drop (26 + n) file) f.heading_is) f.mark_is (sym c.in_ok-front.ensures.answer) (sym label) c.open.ensures.opened c.open.ensures.found

pub returns-in_err-open : goal.returns-in_err-open
returns-in_err-open g c =
    let m = g.C.Cipher.meaning c.args.c.now in
    let p = err_from_is_err_and c.from_residual-in_err-open.result c.from_residual-in_err-open.ensures.1 in
    let is : of_seal c.open.result ≡ c.from_residual-in_err-open.result = ap of_seal c.in_err-open.was ∙ ap (λ (e : FileRefusal). Err e) (sym p.2) ∙ sym p.1 in
    let o = subst (λ (r : Result ℕ FileRefusal). FileOpened m c.args.file.now c.args.out.now r c.open.new.out) is (core g (goal.at.returns-in_err-open g c).After-open) in
    record { opened = o; exactly = exactly m c.args.file.now (all_bytes c.args.file.now c.type_inv.file) _ _ _ o; same = c.open.ensures.same ∙ c.label.ensures.same }

pub returns : goal.returns
returns g c =
    let m = g.C.Cipher.meaning c.args.c.now in
    let o = subst (λ (r : Result ℕ FileRefusal). FileOpened m c.args.file.now c.args.out.now r c.open.new.out) (ap of_seal c.in_ok-open.was) (core g (goal.at.returns g c).After-open) in
    record { opened = o; exactly = exactly m c.args.file.now (all_bytes c.args.file.now c.type_inv.file) _ _ _ o; same = c.open.ensures.same ∙ c.label.ensures.same }
