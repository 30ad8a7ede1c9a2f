-- A header or a field word is read by a marker: what is true of every state stays.
use Rattle.std.proofs.Common.{◌≡◌, ℕ, ◌-◌, ◌<◌, List, [], ◌∷◌, ◌++◌, get_or, set, Bool, true, false, not, cond, ◌&&◌, length, eqb, Some, None, refl, sym, ap, ◌∙◌, subst, inl, inr, arith, Contains}
use Rattle.std.specs.Option.{is_none}
use Rattle.std.proofs.lemmas.Bool.{cases_Bool, cases_eq, cond-true, cond-false, false≢true, false_from_ne_true, eq-eqb, ne_eqb, eqb-true, or_cases, cases_lt}
use Rattle.std.proofs.lemmas.List.{get_or_past}
use Rattle.std.proofs.lemmas.List.Elements.{Contains-get_or, Contains-append_left, Contains-append_right, Contains-append_cases}
use Rattle.marker_core.specs.declared.states.CoreState.{CoreState}
use Rattle.marker_core.specs.declared.states.Hand.{Hand}
use Rattle.marker_core.specs.declared.states.MarkerView.{MarkerView}
use Rattle.marker_core.specs.Layout.{has_mark, has_traced, stop_at}
use Rattle.marker_core.specs.Bodies.{is_place, holds}
use Rattle.marker_core.specs.Hands.{hand_read, hand_looked, wants_word, wants_key, wants, noted_pair, each_hand}
use Rattle.marker_core.specs.MarkerSteps.{can_look, looked, can_read_field, core_field_read, known_by, with_marker_view}
use Rattle.marker_core.specs.Views.{times, marks_at, traces_at, IsHand, IsNoted, spent_view, view_at}
use Rattle.marker_core.specs.Tracing.{NotedArePairs}
use Rattle.marker_core.specs.Core.{IsCoreOk}
use Rattle.marker_core.proofs.Members.{held_after, holds_append_cases}
use Rattle.marker_core.proofs.Loads.{found_traced}
use Rattle.marker_core.proofs.Traces.{hand_or_none}
use Rattle.marker_core.proofs.Tricolour.{HandTurn, HandChanges, marker_changes, strong_same, pairs_same, pairs_covered, strong_turned, pairs_turned, hands_turned, hands_in_turned, loaded_in_turned}
use Rattle.marker_core.proofs.Turns.{turn_by_word, turn_by_key, noted_here, noted_is_pair, target_is_place}
use Rattle.marker_core.proofs.Retold.{retold_ok, is_there, is_view, is_on, own_hand, sum_after, now_is_in, still_noted, noted_after, noted_again, quiet_after, known_after, done_after, hand_goes, hand_comes}

-- a view that knows a place, or has a hand, isn't spent
pub known_is_out : (s : CoreState) → IsCoreOk s → (k a : ℕ) → holds (view_at s.markers k).known a ≡ true → (view_at s.markers k).spent ≡ false
known_is_out s ok k a known = false_from_ne_true (view_at s.markers k).spent (λ spent. elim (cases_lt k (length s.markers)) [
  | inl below ↦
      (let emptied = ok.quiet_while_off.spent_views (view_at s.markers k) (Contains-get_or s.markers k spent_view below) spent in
      false≢true (ap (λ l. holds l a) (sym emptied.known) ∙ known))
  | inr past ↦ false≢true (ap (λ (v : MarkerView). holds v.known a) (sym (get_or_past s.markers k spent_view past)) ∙ known)
])

pub hand_is_out : (s : CoreState) → IsCoreOk s → (k : ℕ) (h : Hand) → (view_at s.markers k).hand ≡ Some h → (view_at s.markers k).spent ≡ false
hand_is_out s ok k h own = false_from_ne_true (view_at s.markers k).spent (λ spent. elim (cases_lt k (length s.markers)) [
  | inl below ↦
      (let emptied = ok.quiet_while_off.spent_views (view_at s.markers k) (Contains-get_or s.markers k spent_view below) spent in
      let e : None ≡ Some h = sym emptied.hand ∙ own in
      cc)
  | inr past ↦ (let e : None ≡ Some h = sym (ap (λ (v : MarkerView). v.hand) (get_or_past s.markers k spent_view past)) ∙ own in cc)
])

-- what a view has to keep that differs in lists that don't count
pub record Keeps (s : CoreState) (k : ℕ) (now : MarkerView) : Type 0 where
  pub marked : now.marked ≡ (view_at s.markers k).marked
  pub traced : now.traced ≡ (view_at s.markers k).traced
  pub out : now.spent ≡ false
  pub halts : now.halted ≡ true → get_or s.words (stop_at s.count) 0 ≡ 1
  pub notes : (p : ℕ × ℕ) → Contains (view_at s.markers k).noted p → Contains now.noted p
  pub pairs : NotedArePairs s.types s.mutator.bodies (IsNoted s.mutator (set s.markers k now))
  pub knows : (a : ℕ) → holds now.known a ≡ true → is_place s.mutator.bodies a ≡ true
  pub does : (a : ℕ) → holds now.done a ≡ true → 0 < traces_at s.mutator s.markers a

module _ (s : CoreState) (ok : IsCoreOk s) (k : ℕ) (out : (view_at s.markers k).spent ≡ false) (now : MarkerView) (keeps : Keeps s k now) where
  abbrev view : MarkerView
  view = view_at s.markers k

  abbrev views : List MarkerView
  views = set s.markers k now

  abbrev marks : ℕ → ℕ
  marks = marks_at s.mutator s.markers

  abbrev traces : ℕ → ℕ
  traces = traces_at s.mutator s.markers

  on : s.mutator.on ≡ true
  on = is_on s ok k out

  noted_still : (p o : ℕ) → IsNoted s.mutator s.markers p o → IsNoted s.mutator views p o
  noted_still = still_noted s ok k out now s.mutator keeps.notes (λ p h. h)

  same_marks : (x : ℕ) → marks_at s.mutator views x ≡ marks x
  same_marks x =
      let sums = sum_after s ok k out now (λ v. times x v.marked) in
      let same : times x now.marked ≡ times x view.marked = ap (times x) keeps.marked in
      omega (arith, sums, same)

  same_traces : (x : ℕ) → traces_at s.mutator views x ≡ traces x
  same_traces x =
      let sums = sum_after s ok k out now (λ v. times x v.traced) in
      let same : times x now.traced ≡ times x view.traced = ap (times x) keeps.traced in
      omega (arith, sums, same)

  -- the hand is the same
  pub same_hand_ok : now.hand ≡ view.hand → IsCoreOk (with_marker_view s k now)
  same_hand_ok same =
      let goes = hand_goes s ok k out now s.mutator refl same in
      let comes = hand_comes s ok k out now s.mutator refl same in
      let may = ok.may_is_closed on in
      retold_ok s ok on s.mutator.marked s.mutator.traced s.mutator.noted s.mutator.done s.mutator.missed s.mutator.lent views
      (record {
        marks_same = same_marks;
        traces_same = same_traces;
        strong =
            strong_same s.types s.mutator.bodies marks traces s.mutator.pending (IsHand s.mutator s.markers) (IsHand s.mutator views) goes
            (ok.strong_targets_accounted on);
        pairs =
            pairs_same s.types s.mutator.bodies marks traces s.mutator.pending (IsHand s.mutator s.markers) (IsHand s.mutator views) goes
            (IsNoted s.mutator s.markers) (IsNoted s.mutator views) noted_still (ok.pairs_accounted on);
        noted = keeps.pairs;
        known = known_after s ok k out now keeps.knows;
        fits = λ h is. ok.hands_are_bodies.hands h (comes h is);
        hands_in = λ h is. may.hands_in h (comes h is);
        loaded_in = λ h t is loaded. may.loaded_in h t (comes h is) loaded;
        done = done_after s ok k out now keeps.does;
        quiet = quiet_after s ok k out now s.mutator.hand keeps.out keeps.halts;
      })

  -- the hand takes a turn
  pub turned_hand_ok : (h : Hand) → view.hand ≡ Some h
      → HandTurn s.types s.mutator.bodies marks s.mutator.pending s.mutator.may (IsNoted s.mutator views) h now.hand → IsCoreOk (with_marker_view s k now)
  turned_hand_ok h own turn =
      let held : IsHand s.mutator s.markers h = own_hand s ok k out h own in
      let fits = ok.hands_are_bodies.hands h held in
      let old = IsHand s.mutator s.markers in
      let new = IsHand s.mutator views in
      let noted = IsNoted s.mutator views in
      let changes : HandChanges old new (Some h) now.hand =
      subst (λ gone. HandChanges old new gone now.hand) own (marker_changes s.mutator s.markers k now (is_there s ok k out))
      in
      let may = ok.may_is_closed on in
      retold_ok s ok on s.mutator.marked s.mutator.traced s.mutator.noted s.mutator.done s.mutator.missed s.mutator.lent views
      (record {
        marks_same = same_marks;
        traces_same = same_traces;
        strong =
            strong_turned s.count s.types s.mutator.bodies ok.bodies_are_whole ok.bodies_lie_apart marks s.mutator.pending s.mutator.may noted old
            new h now.hand changes fits turn traces (ok.strong_targets_accounted on);
        pairs =
            pairs_turned s.count s.types s.mutator.bodies ok.bodies_are_whole ok.bodies_lie_apart marks s.mutator.pending s.mutator.may noted old
            new h now.hand changes fits turn traces
            (pairs_covered s.types s.mutator.bodies marks marks traces s.mutator.pending s.mutator.pending old (λ w c. c)
            (IsNoted s.mutator s.markers) noted noted_still (ok.pairs_accounted on));
        noted = keeps.pairs;
        known = known_after s ok k out now keeps.knows;
        fits =
            hands_turned s.count s.types s.mutator.bodies ok.bodies_are_whole ok.bodies_lie_apart marks s.mutator.pending s.mutator.may noted old
            new h now.hand changes fits turn ok.hands_are_bodies.hands;
        hands_in =
            hands_in_turned s.count s.types s.mutator.bodies ok.bodies_are_whole ok.bodies_lie_apart marks s.mutator.pending s.mutator.may noted
            old new h now.hand changes fits turn may.hands_in (may.hands_in h held);
        loaded_in =
            loaded_in_turned s.count s.types s.mutator.bodies ok.bodies_are_whole ok.bodies_lie_apart marks s.mutator.pending s.mutator.may noted
            old new h now.hand changes fits turn may.loaded_in;
        done = done_after s ok k out now keeps.does;
        quiet = quiet_after s ok k out now s.mutator.hand keeps.out keeps.halts;
      })

-- ---- a header is read

-- the view after the look, where the header is that of the key in hand, or not
abbrev looked_view : CoreState → ℕ → ℕ → Bool → MarkerView
looked_view s k a key =
    let v = view_at s.markers k in
    let header = get_or s.words a 0 in
    record v {
      hand = cond key (each_hand (hand_looked s.types header) v.hand) v.hand;
      noted = cond key (v.noted ++ noted_pair header v.hand) v.noted;
      done = cond (has_traced header) (v.done ++ a ∷ []) v.done;
      missed = cond (is_none v.hand && not (has_mark header) && not (has_traced header)) (v.missed ++ a ∷ []) v.missed;
      last = Some (a, header);
    }

module _ (s : CoreState) (ok : IsCoreOk s) (k a : ℕ) (can : can_look s k a ≡ true) where
  abbrev out_here : (view_at s.markers k).spent ≡ false
  out_here = known_is_out s ok k a can

  abbrev own : MarkerView
  own = view_at s.markers k

  abbrev header : ℕ
  header = get_or s.words a 0

  place_here : is_place s.mutator.bodies a ≡ true
  place_here = ok.hands_are_bodies.known own a (is_view s ok k out_here) can

  looked_keeps : (key : Bool) → ((p : ℕ × ℕ) → Contains own.noted p → Contains (looked_view s k a key).noted p)
      → NotedArePairs s.types s.mutator.bodies (IsNoted s.mutator (set s.markers k (looked_view s k a key))) → Keeps s k (looked_view s k a key)
  looked_keeps key notes pairs = record {
    marked = refl;
    traced = refl;
    out = out_here;
    halts = λ halted. ok.quiet_while_off.halted_views own (is_view s ok k out_here) halted;
    notes = notes;
    pairs = pairs;
    knows = λ x known. ok.hands_are_bodies.known own x (is_view s ok k out_here) known;
    does = λ x held. elim (held_after (has_traced header) own.done a x held) [
      | inl old ↦ (ok.may_is_closed (is_on s ok k out_here)).done_are_traced x (inr (own, is_view s ok k out_here, old))
      | inr new ↦ subst (λ y. 0 < traces_at s.mutator s.markers y) (sym new.1) (found_traced s ok a place_here new.0)
    ];
  }

  look_at_key : (h : Hand) → own.hand ≡ Some h → wants_key h.part a ≡ true → IsCoreOk (with_marker_view s k (looked_view s k a true))
  look_at_key h mine key =
      let now = looked_view s k a true in
      let held : IsHand s.mutator s.markers h = own_hand s ok k out_here h mine in
      let on = is_on s ok k out_here in
      let keeps = looked_keeps true (λ p. Contains-append_left own.noted (noted_pair header own.hand) p)
      (noted_after s ok k out_here now (λ p o note. elim (Contains-append_cases own.noted (noted_pair header own.hand) (p, o) note) [
        | inl was ↦ ok.noted_are_pairs on p o (inr (own, is_view s ok k out_here, was))
        | inr new ↦
            noted_is_pair s ok on (IsNoted s.mutator s.markers) h held a key p o
            (subst (λ hand. Contains (noted_pair header hand) (p, o)) mine new)
      ]))
      in
      let n : now.hand ≡ hand_looked s.types header h = ap (each_hand (hand_looked s.types header)) mine in
      let noted = IsNoted s.mutator (set s.markers k now) in
      turned_hand_ok s ok k out_here now keeps h mine
      (subst (HandTurn s.types s.mutator.bodies (marks_at s.mutator s.markers) s.mutator.pending s.mutator.may noted h) (sym n)
      (turn_by_key s ok on noted h held a key
      (λ unmarked.
      inr (
        now,
        now_is_in s ok k out_here now,
        Contains-append_right own.noted (noted_pair header own.hand) (h.place, h.next)
            (subst (λ hand. Contains (noted_pair header hand) (h.place, h.next)) (sym mine) (noted_here header h unmarked)),
      ))))

  pub looked_state : IsCoreOk (looked s k a)
  looked_state = elim (cases_Bool (wants (λ h. wants_key h.part a) own.hand)) [
    | inr other_header ↦
        subst (λ key. IsCoreOk (with_marker_view s k (looked_view s k a key))) (sym other_header)
        (same_hand_ok s ok k out_here (looked_view s k a false)
        (looked_keeps false (λ p h. h) (noted_again s ok k out_here (looked_view s k a false) refl)) refl)
    | inl key ↦
        subst (λ b. IsCoreOk (with_marker_view s k (looked_view s k a b))) (sym key)
        (elim (hand_or_none own.hand) [
          | inl none ↦ absurd (false≢true (sym (ap (wants (λ h. wants_key h.part a)) none) ∙ key))
          | inr some ↦ look_at_key some.0 some.1 (sym (ap (wants (λ h. wants_key h.part a)) some.1) ∙ key)
        ])
  ]

pub look_ok : (s : CoreState) → IsCoreOk s → (k a : ℕ) → can_look s k a ≡ true → IsCoreOk (looked s k a)
look_ok s ok k a can = looked_state s ok k a can

-- ---- a field word is read

only_member : (n x : ℕ) → holds (n ∷ []) x ≡ true → n ≡ x
only_member n x h = elim (or_cases (eqb n x) false h) [ inl same ↦ eqb-true n x same | inr none ↦ absurd (false≢true none) ]

module _ (s : CoreState) (ok : IsCoreOk s) (k a : ℕ) (h : Hand) (mine : (view_at s.markers k).hand ≡ Some h) (want : wants_word h h.part a ≡ true) where
  abbrev out_now : (view_at s.markers k).spent ≡ false
  out_now = hand_is_out s ok k h mine

  abbrev reader : MarkerView
  reader = view_at s.markers k

  abbrev word : ℕ
  word = get_or s.words a 0

  abbrev after : MarkerView
  after = record reader { hand = each_hand (hand_read s.types word) reader.hand; known = reader.known ++ known_by word }

  found_place : (x : ℕ) → holds (known_by word) x ≡ true → is_place s.mutator.bodies x ≡ true
  found_place x held = elim (cases_eq word 0) [
    | inl null ↦
        absurd (false≢true (ap (λ l. holds l x) (sym (cond-true (eqb word 0) [] ((word - 1) ∷ []) (eq-eqb word 0 null))) ∙ held))
    | inr some ↦
        (let one : holds ((word - 1) ∷ []) x ≡ true =
        ap (λ l. holds l x) (sym (cond-false (eqb word 0) [] ((word - 1) ∷ []) (ne_eqb word 0 some))) ∙ held
        in
        let same : word - 1 ≡ x = only_member (word - 1) x one in
        let noted = IsNoted s.mutator s.markers in
        ap (is_place s.mutator.bodies) (sym same)
        ∙ target_is_place s ok (is_on s ok k out_now) noted h (own_hand s ok k out_now h mine) a want some)
  ]

  reads : IsCoreOk (core_field_read s k a)
  reads =
      let noted = IsNoted s.mutator (set s.markers k after) in
      let n : after.hand ≡ hand_read s.types word h = ap (each_hand (hand_read s.types word)) mine in
      turned_hand_ok s ok k out_now after
      (record {
        marked = refl;
        traced = refl;
        out = out_now;
        halts = λ halted. ok.quiet_while_off.halted_views reader (is_view s ok k out_now) halted;
        notes = λ p there. there;
        pairs = noted_again s ok k out_now after refl;
        knows = λ x known. elim (holds_append_cases reader.known (known_by word) x known) [
          | inl old ↦ ok.hands_are_bodies.known reader x (is_view s ok k out_now) old
          | inr new ↦ found_place x new
        ];
        does = λ x held. (ok.may_is_closed (is_on s ok k out_now)).done_are_traced x (inr (reader, is_view s ok k out_now, held));
      })
      h mine
      (subst (HandTurn s.types s.mutator.bodies (marks_at s.mutator s.markers) s.mutator.pending s.mutator.may noted h) (sym n)
      (turn_by_word s ok (is_on s ok k out_now) noted h (own_hand s ok k out_now h mine) a want))

pub field_ok : (s : CoreState) → IsCoreOk s → (k a : ℕ) → can_read_field s k a ≡ true → IsCoreOk (core_field_read s k a)
field_ok s ok k a can = elim (hand_or_none (view_at s.markers k).hand) [
  | inl none ↦ absurd (false≢true (sym (ap (wants (λ h. wants_word h h.part a)) none) ∙ can))
  | inr some ↦ reads s ok k a some.0 some.1 (sym (ap (wants (λ h. wants_word h h.part a)) some.1) ∙ can)
]
