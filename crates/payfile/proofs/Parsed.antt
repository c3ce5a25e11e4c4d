-- A file read back: each field where it stands, and the file from its fields.
use Rattle.std.proofs.Common.{◌≡◌, ℕ, ◌+◌, ◌<◌, ◌≤◌, List, ◌∷◌, ◌++◌, length, get_or, take, drop, sym, refl, ap, ◌∙◌, append_assoc, arith, length-append, length-drop, take-append-drop, length-take}
use Rattle.std.proofs.lemmas.List.{take_at, drop_at, drop-drop, drop_more, get_or_at}
use Rattle.std.proofs.ByRecursion.{All-take, All-drop}
use Rattle.block.specs.Bytes.{Bytes, of_bytes, bytes_by}
use Rattle.block.proofs.Bytes.{number_bytes_by, bytes_by_of_bytes}
use Rattle.payfile.specs.Layout.{file_of, heading_size, stream_size, nonce_in, settings_in, mark_in, heading_in, stream_in}

-- the fields in one row
abbrev row : (nonce settings : List ℕ) (k : ℕ) (heading s : List ℕ) → List ℕ
row nonce settings k heading s = 1 ∷ (bytes_by 4 (length heading) ++ (bytes_by 4 (length s) ++ (nonce ++ (settings ++ k ∷ (heading ++ s)))))

row_is : (nonce settings : List ℕ) (k : ℕ) (heading s : List ℕ) → file_of nonce settings k heading s ≡ row nonce settings k heading s
unfolding file_of
row_is nonce settings k heading s = simp append_assoc

module _ (nonce settings : List ℕ) (k : ℕ) (heading s : List ℕ) (n8 : length nonce ≡ 8) (s8 : length settings ≡ 8) where
  abbrev laid : List ℕ
  laid = file_of nonce settings k heading s

  abbrev is : laid ≡ row nonce settings k heading s
  is = row_is nonce settings k heading s

  version_is : get_or laid 0 0 ≡ 1
  version_is = ap (λ (f : List ℕ). get_or f 0 0) is

  heading_size_is : length heading < 4294967296 → heading_size laid ≡ length heading
  unfolding heading_size
  heading_size_is h = ap (λ (f : List ℕ). of_bytes (take 4 (drop 1 f))) is ∙ number_bytes_by 4 (length heading) ∙ omega arith

  stream_size_is : length s < 4294967296 → stream_size laid ≡ length s
  unfolding stream_size
  stream_size_is h = ap (λ (f : List ℕ). of_bytes (take 4 (drop 5 f))) is ∙ number_bytes_by 4 (length s) ∙ omega arith

  nonce_is : nonce_in laid ≡ nonce
  nonce_is = ap nonce_in is ∙ take_at nonce (settings ++ k ∷ (heading ++ s)) 8 n8

  settings_is : settings_in laid ≡ settings
  settings_is = ap settings_in is ∙ ap (take 8) (drop_at nonce (settings ++ k ∷ (heading ++ s)) 8 n8) ∙ take_at settings (k ∷ (heading ++ s)) 8 s8

  both : length (nonce ++ settings) ≡ 16
  both = simp length-append (omega arith)

  behind : nonce ++ (settings ++ k ∷ (heading ++ s)) ≡ (nonce ++ settings) ++ k ∷ (heading ++ s)
  behind = sym (append_assoc nonce settings (k ∷ (heading ++ s)))

  mark_is : mark_in laid ≡ k
  mark_is = ap mark_in is ∙ ap (λ (f : List ℕ). get_or f 16 0) behind ∙ get_or_at (nonce ++ settings) k (heading ++ s) 0 16 both

  rest_is : drop 26 laid ≡ heading ++ s
  rest_is =
      ap (drop 26) is ∙ sym (drop-drop 1 16 (nonce ++ (settings ++ k ∷ (heading ++ s)))) ∙ ap (λ (f : List ℕ). drop 1 (drop 16 f)) behind
      ∙ ap (drop 1) (drop_at (nonce ++ settings) (k ∷ (heading ++ s)) 16 both)

  heading_is : length heading < 4294967296 → heading_in laid ≡ heading
  heading_is h = ap (λ (n : ℕ). take n (drop 26 laid)) (heading_size_is h) ∙ ap (take (length heading)) rest_is ∙ take_at heading s (length heading) refl

  stream_is : length heading < 4294967296 → stream_in laid ≡ s
  stream_is h = ap (λ (n : ℕ). drop (26 + n) laid) (heading_size_is h) ∙ sym (drop-drop (length heading) 26 laid) ∙ ap (drop (length heading)) rest_is ∙ drop_at heading s (length heading) refl

-- what a file of these fields is read as
pub record ReadBack (nonce settings : List ℕ) (k : ℕ) (heading s file : List ℕ) : Type 0 where
  pub version_read : get_or file 0 0 ≡ 1
  pub heading_size_read : heading_size file ≡ length heading
  pub stream_size_read : stream_size file ≡ length s
  pub nonce_read : nonce_in file ≡ nonce
  pub settings_read : settings_in file ≡ settings
  pub marked_read : mark_in file ≡ k
  pub heading_read : heading_in file ≡ heading
  pub stream_read : stream_in file ≡ s

pub read_back : (nonce settings : List ℕ) (k : ℕ) (heading s : List ℕ) → length nonce ≡ 8 → length settings ≡ 8 → length heading < 4294967296 → length s < 4294967296
    → ReadBack nonce settings k heading s (file_of nonce settings k heading s)
read_back nonce settings k heading s n8 s8 h4 s4 = record {
  version_read = version_is nonce settings k heading s n8 s8;
  heading_size_read = heading_size_is nonce settings k heading s n8 s8 h4;
  stream_size_read = stream_size_is nonce settings k heading s n8 s8 s4;
  nonce_read = nonce_is nonce settings k heading s n8 s8;
  settings_read = settings_is nonce settings k heading s n8 s8;
  marked_read = mark_is nonce settings k heading s n8 s8;
  heading_read = heading_is nonce settings k heading s n8 s8 h4;
  stream_read = stream_is nonce settings k heading s n8 s8 h4;
}

-- a field and what is behind it
joined : (i n : ℕ) (xs : List ℕ) → take n (drop i xs) ++ drop (i + n) xs ≡ drop i xs
joined i n xs = ap (λ (z : List ℕ). take n (drop i xs) ++ z) (sym (drop-drop n i xs)) ∙ take-append-drop n (drop i xs)

four_back : (file : List ℕ) (i : ℕ) → Bytes file → i + 4 ≤ length file → bytes_by 4 (of_bytes (take 4 (drop i file))) ≡ take 4 (drop i file)
four_back file i b h =
    let part : List ℕ = take 4 (drop i file) in
    let l : length part ≡ 4 = simp (length-take, length-drop) (omega arith) in
    ap (λ (n : ℕ). bytes_by n (of_bytes part)) (sym l) ∙ bytes_by_of_bytes part (All-take (λ x. x < 256) 4 (drop i file) (All-drop (λ x. x < 256) i file b))

in_row : (a a' b b' n t : List ℕ) (k : ℕ) (hs d26 d25 d17 d9 d5 d1 : List ℕ) → a ≡ a' → b ≡ b' → hs ≡ d26 → k ∷ d26 ≡ d25 → t ++ d25 ≡ d17 → n ++ d17 ≡ d9 → b' ++ d9 ≡ d5 → a' ++ d5 ≡ d1
    → 1 ∷ (a ++ (b ++ (n ++ (t ++ k ∷ hs)))) ≡ 1 ∷ d1
in_row a a' b b' n t k hs d26 d25 d17 d9 d5 d1 e1 e2 e3 e4 e5 e6 e7 e8 = cc

-- a file whose lengths add up is the layout of its fields
pub laid_back : (file : List ℕ) → Bytes file → get_or file 0 0 ≡ 1 → length file ≡ 26 + heading_size file + stream_size file
    → file ≡ file_of (nonce_in file) (settings_in file) (mark_in file) (heading_in file) (stream_in file)
unfolding heading_size stream_size
laid_back file b v l =
    let H : ℕ = heading_size file in
    let hl : length (heading_in file) ≡ H = simp (length-take, length-drop) (omega arith) in
    let sl : length (stream_in file) ≡ stream_size file = simp length-drop (omega arith) in
    let h4 : bytes_by 4 (length (heading_in file)) ≡ take 4 (drop 1 file) = ap (bytes_by 4) hl ∙ four_back file 1 b (omega arith) in
    let s4 : bytes_by 4 (length (stream_in file)) ≡ take 4 (drop 5 file) = ap (bytes_by 4) sl ∙ four_back file 5 b (omega arith) in
    let e26 : heading_in file ++ stream_in file ≡ drop 26 file = joined 26 H file in
    let e25 : mark_in file ∷ drop 26 file ≡ drop 25 file = sym (drop_more file 25 0 (omega arith)) in
    let e17 : settings_in file ++ drop 25 file ≡ drop 17 file = joined 17 8 file in
    let e9 : nonce_in file ++ drop 17 file ≡ drop 9 file = joined 9 8 file in
    let e5 : take 4 (drop 5 file) ++ drop 9 file ≡ drop 5 file = joined 5 4 file in
    let e1 : take 4 (drop 1 file) ++ drop 5 file ≡ drop 1 file = joined 1 4 file in
    let e0 : 1 ∷ drop 1 file ≡ file = ap (λ (x : ℕ). x ∷ drop 1 file) (sym v) ∙ sym (drop_more file 0 0 (omega arith)) in
    sym (row_is (nonce_in file) (settings_in file) (mark_in file) (heading_in file) (stream_in file) ∙ in_row _ _ _ _ _ _ _ _ _ _ _ _ _ _ h4 s4 e26 e25 e17 e9 e5 e1 ∙ e0)
