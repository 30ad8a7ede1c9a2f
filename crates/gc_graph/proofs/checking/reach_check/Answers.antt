use Rattle.std.proofs.Common.{◌≡◌, ℕ, List, Bool, true, false, sym, ◌∙◌, subst, IsTrue, ◌↔◌}
use Rattle.std.specs.List.{list_all}
use Rattle.std.proofs.lemmas.Bool.{both_ways}
use Rattle.gc_graph.specs.Graph.{Object, object_at, ClosesUnder}
use Rattle.gc_graph.specs.Checking.{is_listed, ListsEach, object_closes}
use Rattle.gc_graph.proofs.Listed.{each_passes, all_pass}
use Rattle.gc_graph.proofs.Closes.{closed_from_members, members_close}
use Rattle.gc_graph.proofs.checking.reach_check.Goals as goal

-- where every root is held, what is left is that the members close
closes_too : (graph : List Object) (roots set members : List ℕ) (holds closes : Bool) → members ≡ set
    → holds ≡ list_all (is_listed members) roots
    → closes ≡ list_all (λ m. object_closes (is_listed members) (object_at graph m)) members → holds ≡ true
    → IsTrue closes ↔ (ListsEach set roots × ClosesUnder graph (is_listed set))
closes_too graph roots set members holds closes same is_holds is_closes held =
    subst (λ all. IsTrue closes ↔ (ListsEach all roots × ClosesUnder graph (is_listed all))) same (
      (λ closed. (each_passes (is_listed members) roots (sym is_holds ∙ held), closed_from_members graph members (sym is_closes ∙ closed))),
      (λ both. is_closes ∙ members_close graph members both.1),
    )

-- where a root is missing, the check fails
root_missing : (graph : List Object) (roots set members : List ℕ) (holds : Bool) → members ≡ set
    → holds ≡ list_all (is_listed members) roots → holds ≡ false
    → IsTrue holds ↔ (ListsEach set roots × ClosesUnder graph (is_listed set))
root_missing graph roots set members holds same is_holds lacks =
    subst (λ all. IsTrue holds ↔ (ListsEach all roots × ClosesUnder graph (is_listed all))) same (
      (λ held. absurd (both_ways holds lacks held)),
      (λ both. is_holds ∙ all_pass (is_listed members) roots both.0),
    )

pub returns-then-has_all : goal.returns-then-has_all
returns-then-has_all c =
    closes_too c.args.graph.now c.args.roots.now c.args.set.now c.new-members.result c.has_all.result c.is_closed.result c.new-members.ensures
    c.has_all.ensures c.is_closed.ensures c.if-has_all.true

pub returns-else-has_all : goal.returns-else-has_all
returns-else-has_all c =
    root_missing c.args.graph.now c.args.roots.now c.args.set.now c.new-members.result c.has_all.result c.new-members.ensures c.has_all.ensures
    c.if-has_all.false
