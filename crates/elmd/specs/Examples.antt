-- Examples worked by hand, and streams that another program made, computed on the definitions.
use Rattle.std.specs.Prelude.{◌≡◌, ℕ, ◌^◌, true, List, [], ◌∷◌, map, length, replicate, Some, None, Option}
use Rattle.std.proofs.Common.{lit<}
use Rattle.block.specs.Field.{dbl, half, seven, mix, unmix}
use Rattle.block.specs.Bytes.{bytes_by}
use Rattle.cipher.specs.Meaning.{paper}
use Rattle.elmd.specs.Settings.{settings_bytes}
use Rattle.elmd.specs.Stream.{Frame, checks, stream}
use Rattle.elmd.specs.Shape.{blocks_for}

-- under the paper cipher of key k, with t and f
abbrev pub example : (k t f : ℕ) (nonce heading : List ℕ) → Frame
example k t f nonce heading = record { cipher = paper k; settings = 255 ∷ 0 ∷ t ∷ f ∷ 128 ∷ 0 ∷ 0 ∷ 0 ∷ []; nonce = nonce; heading = heading }

abbrev zeros : ℕ → List ℕ
zeros n = replicate n 0

abbrev given : Option ℕ → List ℕ
given (Some l) = l ∷ []
given None = []

-- each as what is computed and what is expected
abbrev pub worked : List (List ℕ × List ℕ)
worked =
    -- doubling where a bit falls out; halving 1, and 7 times that
    (dbl (2 ^ 127) ∷ [], 0x87 ∷ [])
    ∷ (half 1 ∷ seven (half 1) ∷ [], 0x80000000000000000000000000000043 ∷ 0x80000000000000000000000000000040 ∷ [])
    -- mixing 1 with 1, and back
    ∷ ((mix 1 1).0 ∷ (mix 1 1).1 ∷ (unmix 2 1).0 ∷ (unmix 2 1).1 ∷ [], 2 ∷ 3 ∷ 1 ∷ 3 ∷ [])
    -- the settings of label 10, t 127, f 1
    ∷ (settings_bytes (record { label = 10; interval = 127; short_tag = true; ok = lit< tt }), bytes_by 8 0x0a007f0180000000)
    -- the checks of 127, 128, 254 and 255 blocks at t 127
    ∷ (map (checks (example 0 127 0 [] [])) (127 ∷ 128 ∷ 254 ∷ 255 ∷ []), 0 ∷ 1 ∷ 1 ∷ 2 ∷ [])
    -- 17 bytes at t 0, with f 1 and with f 0
    ∷ (length (stream (example 0 0 1 (zeros 8) []) (zeros 17)) ∷ length (stream (example 0 0 0 (zeros 8) []) (zeros 17)) ∷ [], 33 ∷ 48 ∷ [])
    -- at t 1 with a whole tag no stream has 48 bytes, and one of 64 has two blocks
    ∷ (given (blocks_for 1 48), []) ∷ (given (blocks_for 1 64), 2 ∷ [])
    -- three streams worked by hand: a whole block, a filled one, and two blocks with a check
    ∷ (stream (example 1 0 0 (zeros 8) []) (zeros 16), bytes_by 32 0x0000000000000001010000018000000200000000000000020200000300000005)
    ∷ (stream (example 1 0 0 (zeros 8) []) (0 ∷ []), bytes_by 32 0x8080000000000001010000018000004381000000000000020200000300000044)
    ∷ (stream (example 0 1 0 (zeros 8) []) (zeros 32), bytes_by 64 0x000000000000000101000301800000000000000000000001fe0002010000000000000000000000020200060300000000000000000000000404000c0600000001)
    -- streams of another program: several blocks of heading, t above 1, a short last block at f 1
    ∷ (stream (example 0xf123456789abcdef0f1e2d3c4b5a6978 2 1 (bytes_by 8 0x0001020304050607) (bytes_by 20 0x6465666768696a6b6c6d6e6f7071727374757677)) (bytes_by 85 0x030a11181f262d343b424950575e656c737a81888f969da4abb2b9c0c7ced5dce3eaf1f8ff060d141b222930373e454c535a61686f767d848b9299a0a7aeb5bcc3cad1d8dfe6edf4fb020910171e252c333a41484f), bytes_by 133 0x6ae5d8daa60a22372dd95ed22faf0beca5bb2125dca4f4fecb424d34cfcea7682d17ba40cb6514f597ea6d69aad71f519583a6e9a2e9b8cb43dc3a0aa00f4f9dc5452c4924ae0ff342a36ed27ada387ee935e46499c6774d9a8135957c1645524c0f7b909573b685d892ca833d15604d14388cd2a0d13d1884094ad91a135b3bb88233b194)
    ∷ (stream (example 0xf123456789abcdef0f1e2d3c4b5a6978 2 0 (bytes_by 8 0x0001020304050607) (bytes_by 32 0x6465666768696a6b6c6d6e6f707172737475767778797a7b7c7d7e7f80818283)) (bytes_by 80 0x030a11181f262d343b424950575e656c737a81888f969da4abb2b9c0c7ced5dce3eaf1f8ff060d141b222930373e454c535a61686f767d848b9299a0a7aeb5bcc3cad1d8dfe6edf4fb020910171e252c), bytes_by 128 0xaccbfee588af8a8554a721af53d47e4429e76d5b81efa59a39beb3ce37384cbfda803214a2e88ab2cb42c63afa73adcb8d3b3e15187f1a02a625c7ff51e298b4f4341db051834a60895095399901962c376bc5353ff00e50e82398d83e848eb3ee2d18627fe9fda24f357d54faa27ca9f96305e5caeace649d6ff9a0f641f2ac)
    ∷ (stream (example 0xf123456789abcdef0f1e2d3c4b5a6978 1 1 (bytes_by 8 0x0001020304050607) []) (bytes_by 33 0x030a11181f262d343b424950575e656c737a81888f969da4abb2b9c0c7ced5dce3), bytes_by 81 0xe14f9dd2007ebce2247e102a41eab71b5dfae414e6212fce90e9e104fd0a325f0f0a49217257d4be735b846b47ed7067b3448d8a87e0f9ecdccfd297948bed2957fbfa0782ecfd172503b96c20726a074c)
    ∷ []

-- all of them come out
abbrev pub Worked : Type 0
Worked = map (λ e. e.0) worked ≡ map (λ e. e.1) worked
