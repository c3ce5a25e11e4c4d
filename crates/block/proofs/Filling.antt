-- A short block's filling.
use Rattle.std.proofs.Common.{◌≡◌, ℕ, suc, ◌-◌, ◌<◌, ◌≤◌, List, ◌∷◌, ◌++◌, length, take, drop, set, replicate, sym, refl, ap, ◌∙◌, arith, length-append, length-take}
use Rattle.std.proofs.lemmas.List.{append-nil, take-replicate, drop-replicate, set_at}
use Rattle.block.specs.Bytes.{padded, Filled}

pub padded_whole : (bs : List ℕ) → length bs ≡ 16 → padded bs ≡ bs
padded_whole bs e = ap (λ (n : ℕ). bs ++ take n (0x80 ∷ replicate 15 0)) (let z : 16 - length bs ≡ 0 = omega arith in z) ∙ append-nil bs

pub filled_is : Filled
filled_is bs = (
  padded_whole bs,
  λ h.
      let e : 16 - length bs ≡ suc (15 - length bs) = omega arith in
      ap (λ (n : ℕ). bs ++ take n (0x80 ∷ replicate 15 0)) e ∙ ap (λ (z : List ℕ). bs ++ 0x80 ∷ z) (take-replicate (15 - length bs) 15 0 (omega arith)),
)

pub padded_length : (bs : List ℕ) → length bs ≤ 16 → length (padded bs) ≡ 16
padded_length bs h = simp (length-append, length-take) (omega arith)

-- bytes copied over zeros, with 80 behind them
pub fill_set : (tail : List ℕ) → length tail < 16 → set (tail ++ drop (length tail) (replicate 16 0)) (length tail) 0x80 ≡ padded tail
fill_set tail h =
    let n : ℕ = length tail in
    let e : 16 - n ≡ suc (15 - n) = omega arith in
    ap (λ (z : List ℕ). set (tail ++ z) n 0x80) (drop-replicate n 16 0 ∙ ap (λ (k : ℕ). replicate k 0) e)
    ∙ set_at tail 0 (replicate (15 - n) 0) 0x80 n refl ∙ sym ((filled_is tail).1 h)
