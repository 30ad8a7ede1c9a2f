-- Words and bodies stay, and the views tell the same marks: what is true of every state stays.
use Rattle.std.proofs.Common.{◌≡◌, ℕ, ◌+◌, ◌<◌, List, length, get_or, set, true, false, not, cond, Option, Some, sym, ap, ◌∙◌, subst, inl, inr, arith, Contains}
use mathlib.Core.Logic.{◌⊎◌}
use mathlib.Core.Path.{fun_ext}
use Rattle.std.specs.List.{sum_by}
use Rattle.std.proofs.lemmas.Bool.{cases_lt, both_ways, true≢false, true_from_ne_false}
use Rattle.std.proofs.lemmas.List.{get_or_past}
use Rattle.std.proofs.lemmas.List.Elements.{Contains-get_or}
use Rattle.std.proofs.lemmas.List.Sums.{sum_by-set}
use Rattle.marker_core.specs.declared.states.CoreState.{CoreState}
use Rattle.marker_core.specs.declared.states.Hand.{Hand}
use Rattle.marker_core.specs.declared.states.MarkerView.{MarkerView}
use Rattle.marker_core.specs.declared.states.MutatorView.{MutatorView}
use Rattle.marker_core.specs.Layout.{stop_at}
use Rattle.marker_core.specs.Bodies.{is_place, holds}
use Rattle.marker_core.specs.Views.{marks_at, traces_at, IsHand, IsNoted, IsHeaderRead, spent_view, view_at}
use Rattle.marker_core.specs.Matching.{HeadersMatch, QuietWhileOff}
use Rattle.marker_core.specs.Tracing.{StrongAccounted, PairsAccounted, IsPairAt, NotedArePairs, HandFits, HandsAreBodies, IsLoaded, MayIsClosed, TracedAreMarked, MarksCountedOnce}
use Rattle.marker_core.specs.Core.{IsCoreOk}
use Rattle.marker_core.proofs.Members.{was_in_or_written, still_in_or_overwritten, written_is_in}
use Rattle.marker_core.proofs.Rewords.{Rewords}

module _ (s : CoreState) (m : MutatorView) (views : List MarkerView) where
  abbrev marks : ℕ → ℕ
  marks = marks_at s.mutator s.markers

  abbrev traces : ℕ → ℕ
  traces = traces_at s.mutator s.markers

  -- what the new views have to tell, over the same bodies
  pub record Retells : Type 0 where
    pub marks_same : (x : ℕ) → marks_at m views x ≡ marks x
    pub traces_same : (x : ℕ) → traces_at m views x ≡ traces x
    pub strong : StrongAccounted s.types s.mutator.bodies marks traces s.mutator.pending (IsHand m views)
    pub pairs : PairsAccounted s.types s.mutator.bodies marks traces s.mutator.pending (IsHand m views) (IsNoted m views)
    pub noted : NotedArePairs s.types s.mutator.bodies (IsNoted m views)
    pub known : (v : MarkerView) (a : ℕ) → Contains views v → holds v.known a ≡ true → is_place s.mutator.bodies a ≡ true
    pub fits : (h : Hand) → IsHand m views h → HandFits s.types s.mutator.bodies marks s.mutator.pending s.mutator.may h
    pub hands_in : (h : Hand) → IsHand m views h → holds s.mutator.may h.place ≡ true
    pub loaded_in : (h : Hand) (t : ℕ) → IsHand m views h → IsLoaded h.part t → holds s.mutator.may t ≡ true
    pub done : (x : ℕ) → IsHeaderRead m views x → 0 < traces x
    pub quiet : QuietWhileOff s.mutator.on s.mutator.pending m.hand s.mutator.dead m.lent views (get_or s.words (stop_at s.count) 0)

-- the mutator's view with other lists of its own
abbrev pub with_lists : MutatorView → List ℕ → List ℕ → List (ℕ × ℕ) → List ℕ → List ℕ → ℕ → MutatorView
with_lists m marked traced noted done missed lent =
    record m { marked = marked; traced = traced; noted = noted; done = done; missed = missed; lent = lent }

pub retold_ok : (s : CoreState) → IsCoreOk s → s.mutator.on ≡ true → (marked traced : List ℕ) (noted : List (ℕ × ℕ)) (done missed : List ℕ) (lent : ℕ)
    (views : List MarkerView) → Retells s (with_lists s.mutator marked traced noted done missed lent) views
    → IsCoreOk (record s { mutator = with_lists s.mutator marked traced noted done missed lent; markers = views })
retold_ok s ok on marked traced noted done missed lent views tells =
    let m = with_lists s.mutator marked traced noted done missed lent in
    let was = marks_at s.mutator s.markers in
    let were = traces_at s.mutator s.markers in
    let e : was ≡ marks_at m views = sym (fun_ext tells.marks_same) in
    let f : were ≡ traces_at m views = sym (fun_ext tells.traces_same) in
    let may = ok.may_is_closed on in
    record {
      are_types = ok.are_types;
      has_room = ok.has_room;
      bodies_are_whole = ok.bodies_are_whole;
      bodies_lie_apart = ok.bodies_lie_apart;
      serials_differ = ok.serials_differ;
      headers_match =
          subst (λ k. HeadersMatch s.words k (traces_at m views) s.mutator.bodies) e
          (subst (λ k. HeadersMatch s.words was k s.mutator.bodies) f ok.headers_match);
      serials_match = ok.serials_match;
      starts_match = ok.starts_match;
      fields_match = ok.fields_match;
      filled_match = ok.filled_match;
      references_name_bodies = ok.references_name_bodies;
      quiet_while_off = tells.quiet;
      traced_are_marked =
          subst (λ k. TracedAreMarked k (traces_at m views)) e (subst (λ k. TracedAreMarked was k) f ok.traced_are_marked);
      marks_counted_once = subst (λ k. MarksCountedOnce s.mutator.bodies k s.mutator.dead) e ok.marks_counted_once;
      strong_targets_accounted = λ _.
          subst (λ k. StrongAccounted s.types s.mutator.bodies k (traces_at m views) s.mutator.pending (IsHand m views)) e
          (subst (λ k. StrongAccounted s.types s.mutator.bodies was k s.mutator.pending (IsHand m views)) f tells.strong);
      pairs_accounted = λ _.
          subst (λ k. PairsAccounted s.types s.mutator.bodies k (traces_at m views) s.mutator.pending (IsHand m views) (IsNoted m views)) e
          (subst (λ k. PairsAccounted s.types s.mutator.bodies was k s.mutator.pending (IsHand m views) (IsNoted m views)) f tells.pairs);
      noted_are_pairs = λ _. tells.noted;
      hands_are_bodies =
          subst (λ k. HandsAreBodies s.types s.mutator.bodies k s.mutator.pending s.mutator.may (IsHand m views) views) e
          (record { known = tells.known; hands = tells.fits });
      may_is_closed = λ _.
          subst (λ k. MayIsClosed s.types s.mutator.bodies k (traces_at m views) s.mutator.pending s.mutator.may s.mutator.seen (IsHand m views) (IsHeaderRead m views)) e
          (subst (λ k. MayIsClosed s.types s.mutator.bodies was k s.mutator.pending s.mutator.may s.mutator.seen (IsHand m views) (IsHeaderRead m views)) f
          (record {
            are_places = may.are_places;
            closed = may.closed;
            marked_in = may.marked_in;
            hands_in = tells.hands_in;
            loaded_in = tells.loaded_in;
            pending_in = may.pending_in;
            values = may.values;
            others = may.others;
            seen_are_marked = may.seen_are_marked;
            done_are_traced = tells.done;
          }));
    }

-- ---- a marker whose view isn't spent

abbrev pub is_out : MarkerView → ℕ
is_out v = cond (not v.spent) 1 0

same_count : {old new : ℕ} (before after : ℕ) → after + old ≡ before + new → new ≡ 1 → old ≡ 1 → before ≡ after
same_count before after sums new old = omega arith

module _ (s : CoreState) (ok : IsCoreOk s) (k : ℕ) (out : (view_at s.markers k).spent ≡ false) where
  abbrev view : MarkerView
  view = view_at s.markers k

  pub is_there : k < length s.markers
  is_there = elim (cases_lt k (length s.markers)) [
    | inl below ↦ below
    | inr past ↦
        absurd (true≢false (sym (ap (λ (v : MarkerView). v.spent) (get_or_past s.markers k spent_view past)) ∙ out))
  ]

  pub is_view : Contains s.markers view
  is_view = Contains-get_or s.markers k spent_view is_there

  pub is_on : s.mutator.on ≡ true
  is_on = true_from_ne_false s.mutator.on (λ off. both_ways view.spent out (ok.quiet_while_off.no_views off view is_view))

  -- its hand, notes and done places are among those of all views
  pub own_hand : (h : Hand) → view.hand ≡ Some h → IsHand s.mutator s.markers h
  own_hand h e = inr (view, is_view, e)

  module _ (now : MarkerView) where
    abbrev views : List MarkerView
    views = set s.markers k now

    pub sum_after : (f : MarkerView → ℕ) → sum_by f views + f view ≡ sum_by f s.markers + f now
    sum_after f = sum_by-set f s.markers k now spent_view is_there

    pub view_cases : (v : MarkerView) → Contains views v → (v ≡ now) ⊎ Contains s.markers v
    view_cases v h = was_in_or_written s.markers k now v is_there h

    pub now_is_in : Contains views now
    now_is_in = written_is_in s.markers k now is_there

    -- nothing that its view noted is lost
    pub still_noted : (m : MutatorView) → ((p : ℕ × ℕ) → Contains view.noted p → Contains now.noted p)
        → ((p : ℕ × ℕ) → Contains s.mutator.noted p → Contains m.noted p) → (p o : ℕ) → IsNoted s.mutator s.markers p o → IsNoted m views p o
    still_noted m more kept p o note = elim note [
      | inl own ↦ inl (kept (p, o) own)
      | inr other ↦ elim (still_in_or_overwritten s.markers k now other.0 spent_view is_there other.1) [
        | inl same ↦ inr (now, now_is_in, more (p, o) (subst (λ (v : MarkerView). Contains v.noted (p, o)) same other.2))
        | inr still ↦ inr (other.0, still, other.2)
      ]
    ]

    -- what the view noted beside what it had noted are pairs
    pub noted_after : ((p o : ℕ) → Contains now.noted (p, o) → IsPairAt s.types s.mutator.bodies p o)
        → NotedArePairs s.types s.mutator.bodies (IsNoted s.mutator views)
    noted_after own p o note = elim note [
      | inl mine ↦ ok.noted_are_pairs is_on p o (inl mine)
      | inr other ↦ elim (view_cases other.0 other.1) [
        | inl same ↦ own p o (subst (λ (v : MarkerView). Contains v.noted (p, o)) same other.2)
        | inr was ↦ ok.noted_are_pairs is_on p o (inr (other.0, was, other.2))
      ]
    ]

    -- where it noted nothing new
    pub noted_again : now.noted ≡ view.noted → NotedArePairs s.types s.mutator.bodies (IsNoted s.mutator views)
    noted_again same =
        noted_after (λ p o note. ok.noted_are_pairs is_on p o (inr (view, is_view, subst (λ l. Contains l (p, o)) same note)))

    pub quiet_after : (hand : Option Hand) → now.spent ≡ false → (now.halted ≡ true → get_or s.words (stop_at s.count) 0 ≡ 1)
        → QuietWhileOff s.mutator.on s.mutator.pending hand s.mutator.dead s.mutator.lent views (get_or s.words (stop_at s.count) 0)
    quiet_after hand still halts = record {
      no_pending = λ off. absurd (both_ways s.mutator.on off is_on);
      no_hand = λ off. absurd (both_ways s.mutator.on off is_on);
      no_views = λ off. absurd (both_ways s.mutator.on off is_on);
      no_dead = ok.quiet_while_off.no_dead;
      lent_views =
          let outs = sum_after is_out in
          let new : is_out now ≡ 1 = ap (λ b. cond (not b) 1 0) still in
          let old : is_out view ≡ 1 = ap (λ b. cond (not b) 1 0) out in
          ok.quiet_while_off.lent_views ∙ same_count (sum_by is_out s.markers) (sum_by is_out views) outs new old;
      spent_views = λ v h spent. elim (view_cases v h) [
        | inl same ↦ absurd (both_ways v.spent (ap (λ (u : MarkerView). u.spent) same ∙ still) spent)
        | inr was ↦ ok.quiet_while_off.spent_views v was spent
      ];
      halted_views = λ v h halted. elim (view_cases v h) [
        | inl same ↦ halts (sym (ap (λ (u : MarkerView). u.halted) same) ∙ halted)
        | inr was ↦ ok.quiet_while_off.halted_views v was halted
      ];
    }

    pub known_after : ((a : ℕ) → holds now.known a ≡ true → is_place s.mutator.bodies a ≡ true) → (v : MarkerView) (a : ℕ) → Contains views v
        → holds v.known a ≡ true → is_place s.mutator.bodies a ≡ true
    known_after own v a h known = elim (view_cases v h) [
      | inl same ↦ own a (ap (λ (u : MarkerView). holds u.known a) (sym same) ∙ known)
      | inr was ↦ ok.hands_are_bodies.known v a was known
    ]

    pub done_after : ((a : ℕ) → holds now.done a ≡ true → 0 < traces_at s.mutator s.markers a) → (x : ℕ) → IsHeaderRead s.mutator views x
        → 0 < traces_at s.mutator s.markers x
    done_after own x done = elim done [
      | inl mine ↦ (ok.may_is_closed is_on).done_are_traced x (inl mine)
      | inr other ↦ elim (view_cases other.0 other.1) [
        | inl same ↦ own x (ap (λ (u : MarkerView). holds u.done x) (sym same) ∙ other.2)
        | inr was ↦ (ok.may_is_closed is_on).done_are_traced x (inr (other.0, was, other.2))
      ]
    ]

    -- where the view keeps its hand, all views together do
    pub hand_goes : (m : MutatorView) → m.hand ≡ s.mutator.hand → now.hand ≡ view.hand → (g : Hand) → IsHand s.mutator s.markers g → IsHand m views g
    hand_goes m same_own same g is = elim is [
      | inl own ↦ inl (same_own ∙ own)
      | inr other ↦ elim (still_in_or_overwritten s.markers k now other.0 spent_view is_there other.1) [
        | inl at ↦ inr (now, now_is_in, same ∙ ap (λ (v : MarkerView). v.hand) (sym at) ∙ other.2)
        | inr still ↦ inr (other.0, still, other.2)
      ]
    ]

    pub hand_comes : (m : MutatorView) → m.hand ≡ s.mutator.hand → now.hand ≡ view.hand → (g : Hand) → IsHand m views g → IsHand s.mutator s.markers g
    hand_comes m same_own same g is = elim is [
      | inl own ↦ inl (sym same_own ∙ own)
      | inr other ↦ elim (view_cases other.0 other.1) [
        | inl at ↦ inr (view, is_view, sym same ∙ ap (λ (v : MarkerView). v.hand) (sym at) ∙ other.2)
        | inr was ↦ inr (other.0, was, other.2)
      ]
    ]

-- ---- a word is written by a marker, and its view is another

pub record Rewrites (s : CoreState) (words : List ℕ) (views : List MarkerView) (marks traces : ℕ → ℕ) : Type 0 where
  pub rewords : Rewords s words marks traces
  pub traced : TracedAreMarked marks traces
  pub once : MarksCountedOnce s.mutator.bodies marks s.mutator.dead
  pub strong : StrongAccounted s.types s.mutator.bodies marks traces s.mutator.pending (IsHand s.mutator views)
  pub pairs : PairsAccounted s.types s.mutator.bodies marks traces s.mutator.pending (IsHand s.mutator views) (IsNoted s.mutator views)
  pub noted : NotedArePairs s.types s.mutator.bodies (IsNoted s.mutator views)
  pub hands : HandsAreBodies s.types s.mutator.bodies marks s.mutator.pending s.mutator.may (IsHand s.mutator views) views
  pub may :
      MayIsClosed s.types s.mutator.bodies marks traces s.mutator.pending s.mutator.may s.mutator.seen (IsHand s.mutator views)
      (IsHeaderRead s.mutator views)
  pub quiet : QuietWhileOff s.mutator.on s.mutator.pending s.mutator.hand s.mutator.dead s.mutator.lent views (get_or s.words (stop_at s.count) 0)

pub rewritten_ok : (s : CoreState) → IsCoreOk s → (words : List ℕ) (views : List MarkerView) (marks traces : ℕ → ℕ)
    → marks ≡ marks_at s.mutator views → traces ≡ traces_at s.mutator views → Rewrites s words views marks traces
    → IsCoreOk (record s { words = words; markers = views })
rewritten_ok s ok words views marks traces e f parts =
    let both : Rewrites s words views (marks_at s.mutator views) (traces_at s.mutator views) =
    subst (λ k. Rewrites s words views k (traces_at s.mutator views)) e (subst (λ k. Rewrites s words views marks k) f parts)
    in
    record {
      are_types = ok.are_types;
      has_room = both.rewords.room;
      bodies_are_whole = ok.bodies_are_whole;
      bodies_lie_apart = ok.bodies_lie_apart;
      serials_differ = ok.serials_differ;
      headers_match = both.rewords.headers;
      serials_match = both.rewords.serials;
      starts_match = both.rewords.starts;
      fields_match = both.rewords.fields;
      filled_match = both.rewords.filled;
      references_name_bodies = ok.references_name_bodies;
      quiet_while_off = record {
        no_pending = both.quiet.no_pending;
        no_hand = both.quiet.no_hand;
        no_views = both.quiet.no_views;
        no_dead = both.quiet.no_dead;
        lent_views = both.quiet.lent_views;
        spent_views = both.quiet.spent_views;
        halted_views = λ v h halted. both.rewords.stop ∙ both.quiet.halted_views v h halted;
      };
      traced_are_marked = both.traced;
      marks_counted_once = both.once;
      strong_targets_accounted = λ _. both.strong;
      pairs_accounted = λ _. both.pairs;
      noted_are_pairs = λ _. both.noted;
      hands_are_bodies = both.hands;
      may_is_closed = λ _. both.may;
    }
