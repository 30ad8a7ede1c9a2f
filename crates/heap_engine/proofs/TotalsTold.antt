-- The totals that a join tells are those of states since threads went, and none falls; and what is published after a command.
use Rattle.std.proofs.Common.{◌≡◌, ℕ, List, [], ◌∷◌, ◌++◌, map, Option, sym, ap, ◌∙◌, subst, inl, inr, arith}
use Rattle.std.specs.List.{Contains}
use Rattle.std.specs.Option.{option_to_list}
use Rattle.std.proofs.lemmas.List.{map-append}
use Rattle.std.proofs.lemmas.List.Elements.{Contains-append_cases}
use Rattle.gc_graph.specs.declared.command.Command.{Command}
use Rattle.gc_graph.specs.declared.command.Command.TheVariants as C
use Rattle.gc_graph.specs.declared.line.Line.{Line}
use Rattle.gc_graph.specs.declared.line.Line.TheVariants as L
use Rattle.gc_graph.specs.Lawful.{TotalsNeverFall}
use Rattle.gc_graph.specs.Members.{Contains-cons_cases, Contains-map_some}
use Rattle.gc_graph.specs.Outcomes.{finalise_lines}
use Rattle.gc_graph.specs.State.{State}
use Rattle.thread_queues.specs.Falling.{TellNoTotals, still_fall_not}
use Rattle.thread_queues.specs.Going.{TellSomeOf}
use Rattle.thread_queues.specs.Queues.{posted}
use Rattle.thread_queues.specs.Totals.{Totals}
use Rattle.heap_cycle.specs.Owned.{OwnedView}
use Rattle.heap_cycle.specs.Views.{Ran}
use Rattle.heap_cycle.specs.Printed.{Printed, outcome_lines, ran_lines}
use Rattle.heap_engine.specs.CarriedOut.{LeavesBoard, IsOfJoin}
use Rattle.heap_engine.specs.Going.{ArePublished, TellOneOf, since_after, totals_of}

-- what was published until a command is that of the states since, and of the one before it
pub posted_is : (since : List State) (s : State) (region : OwnedView) → ArePublished since s region → posted region.since region.last ≡ map totals_of (since ++ s ∷ [])
posted_is since s region board =
    ap (λ ts. ts ++ region.last ∷ []) board.before ∙ ap (λ t. map totals_of since ++ t ∷ []) board.last ∙ sym (map-append totals_of since (s ∷ []))

-- nothing is published before the command is counted
pub last_stays : (command : Command) (old new : OwnedView) → LeavesBoard command old new → new.last ≡ old.last
last_stays C.ThreadsGo old new board = board.0
last_stays _ old new board = board.0

-- and once it is, what was published is that of the states since
pub posted_after : (command : Command) (s : State) (since : List State) (old new : OwnedView) → LeavesBoard command old new → ArePublished since s old
    → posted new.since new.last ≡ map totals_of (since_after command s since)
posted_after C.ThreadsGo s since old new board was =
    ap (λ ts. ts ++ new.last ∷ []) board.1 ∙ ap (λ t. t ∷ []) (board.0 ∙ was.last)
posted_after _ s since old new board was =
    ap (λ ts. ts ++ new.last ∷ []) board.1 ∙ ap (λ t. old.since ++ t ∷ []) board.0 ∙ posted_is since s old was

-- a join's outcome has one line
pub joined_alone : (o : Printed) (ran : Ran) (join : IsOfJoin o) → outcome_lines o ran ≡ L.Joined join.count ∷ []
joined_alone o ran join =
    ap (λ (ns : List ℕ). finalise_lines ns ++ (option_to_list o.last ++ ran_lines o.calls_back ran)) join.numbers
    ∙ ap (λ (last : Option Line). option_to_list last ++ ran_lines o.calls_back ran) join.last ∙ ap (λ b. L.Joined join.count ∷ ran_lines b ran) join.calm

-- ---- a join

module _ (told : List Line) (o : Printed) (ran : Ran) (join : IsOfJoin o) where
  -- its last line tells no totals
  none_last : TellNoTotals (outcome_lines o ran)
  none_last j a n u f there =
      let only : Contains (L.Joined join.count ∷ []) (L.ReplyTotals j a n u f) = subst (λ ls. Contains ls (L.ReplyTotals j a n u f)) (joined_alone o ran join) there in
      elim (Contains-cons_cases (L.Joined join.count) [] (L.ReplyTotals j a n u f) only) [ inl same ↦ cc | inr never ↦ absurd (omega (arith, never.1)) ]

  -- the totals are those of one of the states
  pub tell_one : (states : List State) → TellSomeOf (map totals_of states) told → TellOneOf states (told ++ outcome_lines o ran)
  tell_one states some j a n u f there = elim (Contains-append_cases told (outcome_lines o ran) (L.ReplyTotals j a n u f) there) [
    | inl first ↦ (
        let one = Contains-map_some totals_of states (record { ordinal = a; objects = n; used = u; finalised = f }) (some j a n u f first) in
        (one.0, one.1, sym (ap (λ (t : Totals). L.ReplyTotals j t.ordinal t.objects t.used t.finalised) one.2))
        )
    | inr later ↦ absurd (none_last j a n u f later)
  ]

  -- and none falls
  pub never_fall : TotalsNeverFall told → TotalsNeverFall (told ++ outcome_lines o ran)
  never_fall fall = still_fall_not told (outcome_lines o ran) fall none_last
