-- Part after part through a file: each begins where the one before ended, and the last ends with the file.
use Rattle.std.proofs.Common.{◌≡◌, ℕ, ◌+◌, ◌-◌, ◌*◌, ◌<◌, ◌≤◌, ap, ◌∙◌, ⊎_elim, arith}
use Rattle.std.proofs.lemmas.Bool.{cases_eq, cases_lt}
use Rattle.std.proofs.lemmas.Bool.Decides.{nat_tests}
use Rattle.fileparts.specs.Parts.{front_part, heading_part, tag_part, Piece, piece, Layout, spots, parts, kind_in, stream_piece, piece_at}

pub at_front : (y : Layout) (n : ℕ) → n ≡ 0 → piece_at y n ≡ piece front_part 0 26
at_front y n e = grind (arith, nat_tests)

pub at_heading : (y : Layout) (n : ℕ) → n ≡ 1 → piece_at y n ≡ piece heading_part 26 y.heading
at_heading y n e = grind (arith, nat_tests)

pub at_stream : (y : Layout) (n e : ℕ) → n ≡ 2 + e → piece_at y n ≡ stream_piece y e
at_stream y n e h = let k : n - 2 ≡ e = omega arith in grind (arith, nat_tests)

module _ (y : Layout) (e : ℕ) where
  pub stream_inner : e < spots y → stream_piece y e ≡ piece (kind_in y.interval e) (26 + y.heading + 16 * e) 16
  stream_inner h = grind (arith, nat_tests)

  pub stream_tag : spots y ≤ e → stream_piece y e ≡ piece tag_part (26 + y.heading + 16 * e) y.shape.tag
  stream_tag h = grind (arith, nat_tests)

  stream_place_lem : (stream_piece y e).place ≡ 26 + y.heading + 16 * e
  stream_place_lem = grind (arith, nat_tests)

-- the bytes of all parts
abbrev pub whole : Layout → ℕ
whole y = 26 + y.heading + 16 * spots y + y.shape.tag

-- `at` is where part n begins, in a file of N bytes; behind the last it is the file's end
pub record Stand (y : Layout) (N n at : ℕ) : Type 0 where
  pub begins : n < parts y → (piece_at y n).place ≡ at
  pub ended : parts y ≤ n → N ≡ at

pub record Step (y : Layout) (N n at : ℕ) : Type 0 where
  pub fits : at + (piece_at y n).size ≤ N
  pub stands : Stand y N (n + 1) (at + (piece_at y n).size)

pub step : (y : Layout) (N n at : ℕ) → N ≡ whole y → n < parts y → (piece_at y n).place ≡ at → Step y N n at
step y N n at w h b =
    ⊎_elim
    (λ z.
    let q = at_front y n z in
    let p : (piece_at y n).place ≡ 0 = ap (λ (q : Piece). q.place) q in
    let s : (piece_at y n).size ≡ 26 = ap (λ (q : Piece). q.size) q in
    record { fits = omega arith; stands = record { begins = λ _. ap (λ (q : Piece). q.place) (at_heading y (n + 1) (omega arith)) ∙ omega arith; ended = λ x. absurd (omega arith) } })
    (λ z. ⊎_elim
    (λ o.
    let q = at_heading y n o in
    let p : (piece_at y n).place ≡ 26 = ap (λ (q : Piece). q.place) q in
    let s : (piece_at y n).size ≡ y.heading = ap (λ (q : Piece). q.size) q in
    let k = stream_place_lem y 0 in
    record { fits = omega arith; stands = record { begins = λ _. ap (λ (q : Piece). q.place) (at_stream y (n + 1) 0 (omega arith)) ∙ k ∙ omega arith; ended = λ x. absurd (omega arith) } })
    (λ o.
    let e : ℕ = n - 2 in
    let ne : n ≡ 2 + e = omega (arith, z, o) in
    let q = at_stream y n e ne in
    let p : (piece_at y n).place ≡ 26 + y.heading + 16 * e = ap (λ (q : Piece). q.place) q ∙ stream_place_lem y e in
    ⊎_elim
    (λ lt.
    let s : (piece_at y n).size ≡ 16 = ap (λ (q : Piece). q.size) (q ∙ stream_inner y e lt) in
    let k = stream_place_lem y (e + 1) in
    record { fits = omega arith; stands = record { begins = λ _. ap (λ (q : Piece). q.place) (at_stream y (n + 1) (e + 1) (omega arith)) ∙ k ∙ omega arith; ended = λ x. absurd (omega arith) } })
    (λ le.
    let s : (piece_at y n).size ≡ y.shape.tag = ap (λ (q : Piece). q.size) (q ∙ stream_tag y e le) in
    record { fits = omega arith; stands = record { begins = λ x. absurd (omega arith); ended = λ _. omega arith } })
    (cases_lt e (spots y)))
    (cases_eq n 1))
    (cases_eq n 0)
