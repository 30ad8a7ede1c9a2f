-- What a pause keeps at any time after the start of its collection.
use Rattle.std.proofs.Common.{◌≡◌, ℕ, ◌<◌, ◌==◌, ◌||◌, true, List, ◌++◌, length, ◌∙◌, subst, inl, inr, arith, leb}
use Rattle.std.specs.List.{list_any}
use Rattle.std.proofs.lemmas.Bool.{or_left, or_right, le-leb}
use Rattle.std.proofs.lemmas.List.{length-map}
use Rattle.gc_graph.specs.declared.command.Want.{Want}
use Rattle.gc_graph.specs.Graph.{Object, has, IsIn}
use Rattle.gc_graph.specs.Reach.{Reach, AreNodes, IsLeastClosed}
use Rattle.gc_graph.specs.State.{Setup, State, Node, graph_of}
use Rattle.gc_graph.specs.May.{members, hits_for}
use Rattle.gc_graph.specs.Pause.{most_kept}
use Rattle.gc_graph.specs.Outcomes.{took}
use Rattle.gc_graph.specs.Valid.{IsValid}
use Rattle.gc_graph.specs.ValidLaw.{StepKeepsValid}
use Rattle.gc_graph.specs.Lawful.{last_state}
use Rattle.gc_graph.specs.MayLaw.{BoundsMeet, reads_until, reached_since, IsNewOrReached, IsBoundedBy}
use Rattle.gc_graph.specs.CollectionLaw.{new_or_reached, IsAccountedFor, KeptIsAccountedFor}
use Rattle.gc_graph.proofs.Sets.{has-set_of, set_of-below}
use Rattle.gc_graph.proofs.Reaching.{reach_law}
use Rattle.gc_graph.proofs.Sound.{found, sound_from, valid_from}
use Rattle.gc_graph.proofs.WeakReads.{refers_within, members_in, member_found, in_below}
use Rattle.gc_graph.proofs.ValidRegion.{others_sound, took_phase}
use Rattle.gc_graph.proofs.MayBounds.{either_list, of_first, of_second, hits_below, bounds_meet}
use Rattle.gc_graph.proofs.MayLaws.{may_is_bounded, run_marking, run_valid}

into_set : (start : State) (reads : List ℕ) (s : State) (n : ℕ) → n < length s.nodes → IsNewOrReached start reads n → IsIn (new_or_reached start reads s) n
into_set start reads s n low h =
    has-set_of (λ k. leb (length start.nodes) k || has (reached_since start reads) k) (length s.nodes) n low
    ∙ elim h [
      | inl new ↦ or_left (leb (length start.nodes) n) (has (reached_since start reads) n) (le-leb (length start.nodes) n new)
      | inr old ↦ or_right (leb (length start.nodes) n) (has (reached_since start reads) n) old
    ]

module _ (setup : Setup) (start : State) (reads : List ℕ) (s : State) (want : Want) (valid : IsValid setup s) (meet : BoundsMeet s want)
    (bounded : IsBoundedBy start reads s) where
  abbrev Graph : List Object
  Graph = graph_of s.nodes

  abbrev Hits : List ℕ
  Hits = hits_for want s

  abbrev From : List ℕ
  From = members (new_or_reached start reads s) ++ Hits

  long : length Graph ≡ length s.nodes
  long = length-map s.nodes (λ (x : Node). x.object)

  hit : (k : ℕ) → list_any (λ r. r == k) Hits ≡ true → k < length Graph
  hit k e = (let l = hits_below want s k e in let g = long in omega arith)

  below_from : AreNodes Graph From
  below_from k =
      either_list (members (new_or_reached start reads s)) Hits k (k < length Graph)
      (λ i. (let l = set_of-below _ (length s.nodes) k
      (found (IsIn (new_or_reached start reads s)) (members (new_or_reached start reads s)) (members_in (new_or_reached start reads s)) k i) in
      let g = long in omega arith))
      (hit k)

  may_below : (k : ℕ) → IsIn s.may k → k < length s.nodes
  may_below k i = (let l = in_below s.may k i in let w = meet.may.whole in omega arith)

  below_most : AreNodes Graph (members s.may ++ Hits)
  below_most k =
      either_list (members s.may) Hits k (k < length Graph)
      (λ i. (let l = may_below k (found (IsIn s.may) (members s.may) (members_in s.may) k i) in let g = long in omega arith)) (hit k)

  law : IsLeastClosed Graph From (Reach Graph From)
  law = reach_law Graph From (refers_within setup s.nodes valid.typed) below_from

  -- the most that is kept lies in what is reached from these
  most_within : (n : ℕ) → IsIn (most_kept s Hits) n → IsIn (Reach Graph From) n
  most_within =
      (reach_law Graph (members s.may ++ Hits) (refers_within setup s.nodes valid.typed) below_most).least (Reach Graph From) law.closed
      (λ k. either_list (members s.may) Hits k (IsIn (Reach Graph From) k)
      (λ i. (let may : IsIn s.may k = found (IsIn s.may) (members s.may) (members_in s.may) k i in
      law.roots_in k
      (of_first (members (new_or_reached start reads s)) Hits k
      (member_found (new_or_reached start reads s) k (into_set start reads s k (may_below k may) (bounded k may))))))
      (λ i. law.roots_in k (of_second (members (new_or_reached start reads s)) Hits k i)))

  pub accounted : (n : ℕ) → IsIn (most_kept s Hits) n → IsAccountedFor start reads s Hits n
  accounted n i = record {
    whole = inr (most_within n i);
    without_hits = λ none. bounded n (subst (λ set. IsIn set n) (meet.exact none) i);
  }

pub kept_is_accounted_for : StepKeepsValid → KeptIsAccountedFor
kept_is_accounted_for law setup start new commands outcomes markers want piece lines some begun allowed run going pause n i =
    let last : State = last_state start outcomes in
    let mid : State = took last pause.before in
    let valid : IsValid setup last = run_valid law setup some start commands outcomes begun.valid allowed run in
    let after : IsValid setup mid = valid_from setup mid (others_sound setup last pause.before pause.others (sound_from setup last valid)) in
    let meet : BoundsMeet mid want = bounds_meet setup mid want after (took_phase last pause.before ∙ run_marking start outcomes begun.marking going) in
    accounted setup start (reads_until start commands outcomes pause.before) mid want after meet
    (may_is_bounded law setup start commands outcomes pause.before some begun allowed run going pause.others)
    n (pause.done.keeps.bounded n i)
