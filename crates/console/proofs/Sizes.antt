-- A message that was read has at most 4,096 bytes.
use Rattle.std.proofs.Common.{ℕ, ◌&&◌, eqb, leb, List, [], ◌∷◌, length, Some, None, Option}
use Rattle.std.proofs.lemmas.Bool.{cond_both, and_parts, leb-true}
use Rattle.console.specs.Commands.{Command, key, nonce, settings, heading, message, block, stream, field, sized, told, marked_command, stream_command, read_line, Sized}

told_sized : (f : List ℕ → Command) → ((b : List ℕ) → Sized (f b)) → (o : Option (List ℕ)) → Sized (told f o)
told_sized f h None = tt
told_sized f h (Some b) = h b

message_sized : (o : Option (List ℕ)) → Sized (told message (sized 1 4096 o))
message_sized None = tt
message_sized (Some b) =
    cond_both (leb 1 (length b) && leb (length b) 4096) (Some b) None (λ o. Sized (told message o))
    (λ e. leb-true (length b) 4096 (and_parts (leb 1 (length b)) (leb (length b) 4096) e).1)
    (λ e. tt)

marked_sized : (xs : List ℕ) → Sized (marked_command xs)
marked_sized [] = tt
marked_sized (c ∷ rest) =
    cond_both (eqb c 48) _ _ Sized (λ e. told_sized (stream 0) (λ b. tt) (field rest))
    (λ e. cond_both (eqb c 49) _ _ Sized (λ e'. told_sized (stream 1) (λ b. tt) (field rest)) (λ e'. tt))

stream_sized : (xs : List ℕ) → Sized (stream_command xs)
stream_sized [] = tt
stream_sized (c ∷ rest) = cond_both (eqb c 32) _ _ Sized (λ e. marked_sized rest) (λ e. tt)

pub read_sized : (xs : List ℕ) → Sized (read_line xs)
read_sized [] = tt
read_sized (c ∷ rest) =
    cond_both (eqb c 75) _ _ Sized (λ e. told_sized key (λ b. tt) (sized 16 16 (field rest)))
    (λ _. cond_both (eqb c 78) _ _ Sized (λ e. told_sized nonce (λ b. tt) (sized 8 8 (field rest)))
    (λ _. cond_both (eqb c 80) _ _ Sized (λ e. told_sized settings (λ b. tt) (sized 8 8 (field rest)))
    (λ _. cond_both (eqb c 72) _ _ Sized (λ e. told_sized heading (λ b. tt) (field rest))
    (λ _. cond_both (eqb c 77) _ _ Sized (λ e. message_sized (field rest))
    (λ _. cond_both (eqb c 66) _ _ Sized (λ e. told_sized block (λ b. tt) (sized 16 16 (field rest)))
    (λ _. cond_both (eqb c 83) _ _ Sized (λ e. stream_sized rest) (λ e. tt)))))))
