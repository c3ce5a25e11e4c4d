-- The replies to a whole text, line after line.
use Rattle.std.proofs.Common.{◌≡◌, ℕ, List, [], ◌∷◌, ◌++◌, length, sym, refl, ap, ◌∙◌, subst, append_assoc}
use Rattle.std.proofs.lemmas.List.{append-nil, nil_from_length}
use Rattle.console.specs.Lines.{lines_of}
use Rattle.console.specs.Commands.{read_line}
use Rattle.console.specs.Known.{Known, nothing, after}
use Rattle.console.specs.Replies.{Reply, Replies, Adds}

-- replies to the lines of what is left complete those to the whole text
abbrev pub Goes : (text : List ℕ) → Known → (rest : List ℕ) → (items : List ℕ) → Type 0
Goes text g rest items = (more : List ℕ) → Replies g (lines_of rest) more → Replies nothing (lines_of text) (items ++ more)

pub goes_start : (text rest items : List ℕ) (g : Known) → g ≡ nothing → rest ≡ text → items ≡ [] → Goes text g rest items
goes_start text rest items g e r f more h =
    subst (λ q. Replies nothing (lines_of text) (q ++ more)) (sym f)
    (subst (λ q. Replies nothing (lines_of q) more) r (subst (λ q. Replies q (lines_of rest) more) e h))

pub goes_step : (text rest line behind : List ℕ) (g h : Known) (old new : List ℕ)
    → lines_of rest ≡ line ∷ lines_of behind → h ≡ after g (read_line line) → Adds old new (Reply g (read_line line))
    → Goes text g rest old → Goes text h behind new
goes_step text rest line behind g h old new lines then added go more r =
    let first = added.0 in
    let later = subst (λ q. Replies q (lines_of behind) more) then r in
    let whole = subst (λ q. Replies g q (first ++ more)) (sym lines) (first, more, refl, added.2, later) in
    let e : old ++ (first ++ more) ≡ new ++ more = sym (append_assoc old first more) ∙ ap (λ q. q ++ more) (sym added.1) in
    subst (λ q. Replies nothing (lines_of text) q) e (go (first ++ more) whole)

pub goes_end : (text rest : List ℕ) (g : Known) (items : List ℕ) → length rest ≡ 0 → Goes text g rest items
    → Replies nothing (lines_of text) items
goes_end text rest g items h go =
    let none = subst (λ q. Replies g (lines_of q) []) (sym (nil_from_length rest h)) refl in
    subst (λ q. Replies nothing (lines_of text) q) (append-nil items) (go [] none)
