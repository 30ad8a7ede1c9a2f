use Rattle.std.proofs.Common.{sym, arith, inl, inr}
use Rattle.std.specs.Prelude.{Err}
use Rattle.std.proofs.lemmas.Bool.{cases_lt}
use Rattle.std.proofs.lemmas.List.Sorted.{searched}
use Rattle.gc_graph.proofs.Listed.{not_listed}
use Rattle.gc_graph.proofs.members.finds.Goals as goal

pub returns-in-Err : goal.returns-in-Err
returns-in-Err c =
    let numbers = c.args.numbers.now in
    let at = c.in-Err.field-0 in
    let found = searched numbers c.args.n (Err at) c.in-Err.ensures.position (λ i j. c.requires i j 0) in
    sym (not_listed numbers c.args.n (λ k below e. elim (cases_lt k at) [
      | inl before ↦ (let less = found.1 k before in omega arith)
      | inr after ↦ (let more = found.2 k after below in omega arith)
    ]))
