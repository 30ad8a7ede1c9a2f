-- Each text is one script, or has exactly one fault.
use Rattle.std.proofs.Common.{◌≡◌, ℕ, zero, suc, ◌+◌, ◌<◌, ◌≤◌, List, [], ◌∷◌, length, get_or, take, drop, Option, Some, None, refl, sym, ap, ◌∙◌, subst, inl, inr, ◌⊎◌, arith}
use Rattle.std.specs.List.{filter_map}
use Rattle.std.proofs.lemmas.Bool.{cases_lt, cases_order}
use Rattle.std.proofs.lemmas.List.{get_or_past}
use Rattle.std.proofs.lemmas.Option.{none-some, same_Some}
use Rattle.gc_graph.specs.Words.{lines_of, words_of}
use Rattle.gc_graph.specs.Reasons.{Reason, number_of, command_of_words, type_of_words}
use Rattle.gc_graph.specs.Reasons.Reason.{Header}
use Rattle.gc_graph.specs.Script.{IsTooLong, IsInLimits, reason_of, reason_at, Script, IsScript, IsFirstFault, IsFault}
use Rattle.gc_graph.specs.ScriptLaw.{IsScriptOrFault, TextsAreJudged}

-- ---- the first faulty line

record IsFaultBelow (callbacks : ℕ) (bytes : List ℕ) (n : ℕ) : Type 0 where
  place : ℕ
  reason : Reason
  first : IsFirstFault callbacks bytes place reason

abbrev AreFaultless : ℕ → List ℕ → ℕ → Type 0
AreFaultless callbacks bytes n = (j : ℕ) → j < n → reason_at callbacks (lines_of bytes) j ≡ None

option_cases : (o : Option Reason) → (o ≡ None) ⊎ ((reason : Reason) × (o ≡ Some reason))
option_cases None = inl refl
option_cases (Some reason) = inr (reason, refl)

next_line : (callbacks : ℕ) (bytes : List ℕ) (n : ℕ) → AreFaultless callbacks bytes n
    → IsFaultBelow callbacks bytes (n + 1) ⊎ AreFaultless callbacks bytes (n + 1)
next_line callbacks bytes n before =
    elim (option_cases (reason_at callbacks (lines_of bytes) n)) [
      | inl none ↦ inr (λ j low. elim (cases_lt j n) [
        | inl l ↦ before j l
        | inr h ↦ (let e : j ≡ n = omega arith in ap (λ k. reason_at callbacks (lines_of bytes) k) e ∙ none)
      ])
      | inr found ↦ inl (record { place = n; reason = found.0; first = record { faulty = found.1; before = λ j low. before j (omega arith) } })
    ]

wider : (callbacks : ℕ) (bytes : List ℕ) (n m : ℕ) → IsFaultBelow callbacks bytes n → IsFaultBelow callbacks bytes m
wider callbacks bytes n m found = record { place = found.place; reason = found.reason; first = found.first }

search_lines : (callbacks : ℕ) (bytes : List ℕ) (n : ℕ) → IsFaultBelow callbacks bytes n ⊎ AreFaultless callbacks bytes n
search_lines callbacks bytes zero = inr (λ j low. absurd (omega arith))
search_lines callbacks bytes (suc n) =
    elim (search_lines callbacks bytes n) [
      | inl found ↦ inl (wider callbacks bytes n (suc n) found)
      | inr none ↦ (let e : n + 1 ≡ suc n = omega arith in
          subst (λ m. IsFaultBelow callbacks bytes m ⊎ AreFaultless callbacks bytes m) e (next_line callbacks bytes n none))
    ]

long_cases : (bytes : List ℕ) → IsTooLong bytes ⊎ IsInLimits bytes
long_cases bytes =
    elim (cases_lt 16777216 (length bytes)) [
      | inl l ↦ inl (inl l)
      | inr few ↦ (elim (cases_lt 1000000 (length (lines_of bytes))) [
        | inl l ↦ inl (inr l)
        | inr short ↦ inr (λ long. elim long [ inl l ↦ absurd (omega arith) | inr l ↦ absurd (omega arith) ])
      ])
    ]

script_said : (callbacks : ℕ) (bytes : List ℕ) → Script
script_said callbacks bytes = record {
  types = filter_map (λ line. type_of_words (words_of line)) (lines_of bytes);
  commands = filter_map (λ line. command_of_words (words_of line)) (lines_of bytes);
}

some_judged : (callbacks : ℕ) (bytes : List ℕ) → IsScriptOrFault callbacks bytes
unfolding script_said
some_judged callbacks bytes =
    elim (long_cases bytes) [
      | inl long ↦ inr (0, 8, inl (long, refl, refl))
      | inr limits ↦ (elim (search_lines callbacks bytes (length (lines_of bytes) + 1)) [
        | inl f ↦ inr (f.place + 1, number_of f.reason, inr (limits, (f.place, f.reason, refl, refl, f.first)))
        | inr none ↦ inl (
          script_said callbacks bytes,
          record {
            limits = limits;
            header = none 0 (omega arith);
            faultless = λ i low. none i (omega arith);
            types = refl;
            commands = refl;
          },
        )
      ])
    ]

-- ---- never both

past_end : (callbacks : ℕ) (lines : List (List ℕ)) (i : ℕ) → reason_at callbacks lines 0 ≡ None → length lines ≤ i → reason_at callbacks lines i ≡ None
past_end callbacks [] i none past = absurd (none-some Header (sym none))
past_end callbacks (header ∷ rest) zero none past = absurd (omega arith)
past_end callbacks (header ∷ rest) (suc i) none past =
    let blank : get_or (header ∷ rest) (suc i) [] ≡ [] = get_or_past (header ∷ rest) (suc i) [] past in
    ap (λ line. reason_of callbacks (header ∷ take i rest) line (drop (suc i + 1) (header ∷ rest))) blank

apart : (callbacks : ℕ) (bytes : List ℕ) (script : Script) (line reason : ℕ) → IsScript callbacks bytes script → IsFault callbacks bytes line reason → ⊥
apart callbacks bytes script line reason is (inl (long, l, r)) = is.limits long
apart callbacks bytes script line reason is (inr (limits, (i, why, l, r, f))) =
    elim (cases_lt i (length (lines_of bytes))) [
      | inl low ↦ none-some why (sym (is.faultless i (omega arith)) ∙ f.faulty)
      | inr past ↦ none-some why (sym (past_end callbacks (lines_of bytes) i is.header past) ∙ f.faulty)
    ]

one_script : (callbacks : ℕ) (bytes : List ℕ) (s t : Script) → IsScript callbacks bytes s → IsScript callbacks bytes t → s ≡ t
one_script callbacks bytes s t is are =
    let types : s.types ≡ t.types = is.types ∙ sym are.types in
    let commands : s.commands ≡ t.commands = is.commands ∙ sym are.commands in
    ap (λ ts. record { types = ts; commands = s.commands }) types ∙ ap (λ cs. record { types = t.types; commands = cs }) commands

one_place : (callbacks : ℕ) (bytes : List ℕ) (i j : ℕ) (why other : Reason) → IsFirstFault callbacks bytes i why → IsFirstFault callbacks bytes j other
    → (i ≡ j) × (why ≡ other)
one_place callbacks bytes i j why other f g =
    elim (cases_order i j) [
      | inl same ↦ (same, same_Some why other (sym f.faulty ∙ ap (λ k. reason_at callbacks (lines_of bytes) k) same ∙ g.faulty))
      | inr (inl l) ↦ absurd (none-some why (sym (g.before i (omega arith)) ∙ f.faulty))
      | inr (inr l) ↦ absurd (none-some other (sym (f.before j (omega arith)) ∙ g.faulty))
    ]

one_fault : (callbacks : ℕ) (bytes : List ℕ) (line reason other why : ℕ) → IsFault callbacks bytes line reason → IsFault callbacks bytes other why
    → (line ≡ other) × (reason ≡ why)
one_fault callbacks bytes line reason other why (inl (long, l, r)) (inl (again, m, s)) = (l ∙ sym m, r ∙ sym s)
one_fault callbacks bytes line reason other why (inl (long, l, r)) (inr (limits, found)) = absurd (limits long)
one_fault callbacks bytes line reason other why (inr (limits, found)) (inl (long, m, s)) = absurd (limits long)
one_fault callbacks bytes line reason other why (inr (limits, (i, a, l, r, f))) (inr (again, (j, b, m, s, g))) =
    let same = one_place callbacks bytes i j a b f g in
    (l ∙ ap (λ n. n + 1) same.0 ∙ sym m, r ∙ ap number_of same.1 ∙ sym s)

pub texts_are_judged : TextsAreJudged
texts_are_judged callbacks bytes = record {
  some = some_judged callbacks bytes;
  apart = apart callbacks bytes;
  one_script = one_script callbacks bytes;
  one_fault = one_fault callbacks bytes;
}
