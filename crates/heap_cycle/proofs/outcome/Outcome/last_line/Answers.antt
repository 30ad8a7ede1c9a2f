use Rattle.std.proofs.Common.{◌≡◌, ◌-◌, ◌<◌, ◌++◌, ◌∷◌, ℕ, List, Option, Some, true, false, length, sym, ap, ◌∙◌, arith}
use Rattle.std.specs.List.{slice_get}
use Rattle.std.specs.Option.{option_to_list}
use Rattle.std.proofs.lemmas.Option.{slice_get-get_or}
use Rattle.gc_graph.specs.declared.line.Line.{Line}
use Rattle.gc_graph.specs.Outcomes.{finalise_lines}
use Rattle.heap_cycle.specs.Printed.{Printed, all_ran, count_ran, ran_lines}
use Rattle.heap_cycle.specs.Views.{Ran, ran_of}
use Rattle.heap_cycle.proofs.OutcomeLines.{last_alone, last_ran}
use Rattle.heap_cycle.proofs.outcome.Outcome.last_line.Goals as goal

abbrev last_of : List Line → Option Line
last_of lines = slice_get lines (length lines - 1)

pub returns-then-self : goal.returns-then-self
returns-then-self c =
    let o : Printed = c.args.self.now in
    let ran : Ran = ran_of c.args.registered.now in
    let told : o.calls_back ≡ true = sym (ap (λ (p : Printed). p.calls_back) c.self.view_is) ∙ c.if-self.true in
    let some : 0 < count_ran ran = c.requires.ran told in
    ap (λ runs. last_of (finalise_lines o.numbers ++ (option_to_list o.last ++ ran_lines runs ran))) told
    ∙ last_ran o.numbers o.last ran _ some (ap (λ n. slice_get (all_ran ran) (n - 1)) (sym c.count_ran.ensures.count) ∙ c.ran_line.ensures)

pub returns : goal.returns
returns c =
    let o : Printed = c.args.self.now in
    let ran : Ran = ran_of c.args.registered.now in
    let last : o.last ≡ Some c.in-Some.line = sym (ap (λ (p : Printed). p.last) c.self.view_is) ∙ c.in-Some.is in
    let off : o.calls_back ≡ false = sym (ap (λ (p : Printed). p.calls_back) c.self.view_is) ∙ c.if-self.false in
    ap (λ l. last_of (finalise_lines o.numbers ++ (option_to_list l ++ ran_lines o.calls_back ran))) last
    ∙ ap (λ runs. last_of (finalise_lines o.numbers ++ c.in-Some.line ∷ ran_lines runs ran)) off ∙ last_alone o.numbers c.in-Some.line
