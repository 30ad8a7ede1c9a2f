use Rattle.std.proofs.Common.{◌≡◌, ℕ, zero, suc, ◌<◌, ◌==◌, true, false, List, [], ◌∷◌, ◌++◌, length, inl, inr, refl, sym, ap, ◌∙◌, arith}
use Rattle.std.specs.Option.{option_to_list}
use Rattle.std.proofs.lemmas.Bool.{eqb-true}
use Rattle.gc_graph.specs.Outcomes.{finalise_lines}
use Rattle.heap_cycle.specs.Printed.{Printed, ran_lines, later_lines}
use Rattle.heap_cycle.proofs.OutcomeLines.{alone_tells}
use Rattle.heap_cycle.proofs.outcome.Outcome.only_line.Goals as goal

some_there : (n : ℕ) → false ≡ (n == 0) → 0 < n
some_there zero is = cc
some_there (suc n) is = omega arith

pub returns-then-not-is_empty-clause-none : goal.returns-then-not-is_empty-clause-none
returns-then-not-is_empty-clause-none c = λ ran line runs is.
    let o : Printed = c.args.self.now in
    let some : 0 < length o.numbers = omega (arith, ap length c.finalised.ensures, some_there (length c.finalised.result.now) c.if-not-is_empty.ensures) in
    alone_tells o.numbers o.last o.calls_back ran line (inl some) is

pub returns-then-self-clause-none : goal.returns-then-self-clause-none
returns-then-self-clause-none c = λ ran line runs is.
    let o : Printed = c.args.self.now in
    let told : o.calls_back ≡ true = sym (ap (λ (p : Printed). p.calls_back) c.self.view_is) ∙ c.if-self.true in
    alone_tells o.numbers o.last o.calls_back ran line (inr (told, runs told)) is

no_numbers : (numbers : List ℕ) → (length numbers == 0) ≡ true → numbers ≡ []
no_numbers [] is = refl
no_numbers (n ∷ numbers) is = absurd (omega (arith, eqb-true (length (n ∷ numbers)) 0 is))

pub returns-in-Some-clause-line : goal.returns-in-Some-clause-line
returns-in-Some-clause-line c = λ ran.
    let o : Printed = c.args.self.now in
    let none : o.numbers ≡ [] = sym c.finalised.ensures ∙ no_numbers c.finalised.result.now (sym c.is_empty.ensures ∙ c.if-not-is_empty.false) in
    ap (λ ns. finalise_lines ns ++ later_lines o ran) none
    ∙ ap (λ last. option_to_list last ++ ran_lines o.calls_back ran) (sym (ap (λ (p : Printed). p.last) c.self.view_is) ∙ c.in-Some.is)
    ∙ ap (λ b. c.in-Some.line ∷ ran_lines b ran) (sym (ap (λ (p : Printed). p.calls_back) c.self.view_is) ∙ c.if-self.false)
