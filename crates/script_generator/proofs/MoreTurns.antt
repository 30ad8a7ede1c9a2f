-- One turn more.
use Rattle.std.proofs.Common.{◌≡◌, ℕ, zero, suc, ◌+◌, List, [], ◌∷◌, ◌++◌, sym, ap, ◌∙◌, subst, arith, append_assoc}
use Rattle.std.specs.List.{flat_map, range_with_len}
use Rattle.std.proofs.lemmas.List.{flat_map_more}
use Rattle.gc_graph.specs.declared.command.Command.{Command}
use Rattle.script_generator.specs.Generated.{number_after, first_commands, turn_commands, turns}

range_more : (a n b : ℕ) → a + n ≡ b → range_with_len a (suc n) ≡ range_with_len a n ++ b ∷ []
range_more a zero b e =
    let same : a ≡ b = omega arith in
    ap (λ x. x ∷ []) same
range_more a (suc n) b e = ap (λ xs. a ∷ xs) (range_more (a + 1) n b (omega arith))

turns_more : (seed n : ℕ) → turns seed (suc n) ≡ turns seed n ++ turn_commands (suc n) (number_after seed (suc n))
turns_more seed n =
    ap (flat_map (λ i. turn_commands i (number_after seed i))) (range_more 1 n (suc n) (omega arith))
    ∙ sym (flat_map_more (λ i. turn_commands i (number_after seed i)) [] (range_with_len 1 n) (suc n))

pub another_turn : (seed n m x : ℕ) (old new : List Command) → m ≡ suc n → old ≡ first_commands ++ turns seed n → x ≡ number_after seed m
    → new ≡ old ++ turn_commands m x → new ≡ first_commands ++ turns seed m
another_turn seed n m x old new next before number more =
    let Turns : ℕ → Type 0 = λ k. new ≡ first_commands ++ turns seed k in
    subst Turns (sym next)
    (more
    ∙ ap (λ commands. commands ++ turn_commands m x) before
    ∙ append_assoc first_commands (turns seed n) (turn_commands m x)
    ∙ ap (λ k. first_commands ++ (turns seed n ++ turn_commands m k)) number
    ∙ ap (λ k. first_commands ++ (turns seed n ++ turn_commands k (number_after seed k))) next
    ∙ ap (λ commands. first_commands ++ commands) (sym (turns_more seed n)))
