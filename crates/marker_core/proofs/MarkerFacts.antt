-- What a seat of a marker may rely on is true of it in every state.
use Rattle.std.proofs.Common.{Contains, ◌≡◌, ℕ, ◌+◌, ◌-◌, ◌%◌, ◌<◌, ◌≤◌, List, get_or, true, false, ltb, Some, sym, ap, ◌∙◌, subst, inl, inr, arith}
use mathlib.Core.Logic.{◌⊎◌}
use Rattle.std.specs.List.{sum_by}
use Rattle.std.proofs.lemmas.Bool.{cases_eq, false≢true, both_ways}
use Rattle.std.proofs.lemmas.List.Sums.{get_or-le-sum_by}
use Rattle.gc_graph.specs.declared.kind.Kind.{Kind}
use Rattle.object_headers.specs.Layout.{header_word}
use Rattle.marker_core.specs.declared.states.Body.{Body}
use Rattle.marker_core.specs.declared.states.CoreState.{CoreState}
use Rattle.marker_core.specs.declared.states.Hand.{Hand}
use Rattle.marker_core.specs.declared.states.MarkerView.{MarkerView}
use Rattle.marker_core.specs.declared.states.MutatorView.{MutatorView}
use Rattle.marker_core.specs.declared.states.Part.{Part}
use Rattle.marker_core.specs.declared.states.Part.TheVariants.{Mark, Key, Value}
use Rattle.marker_core.specs.declared.states.Role.TheVariants.{KeyWord}
use Rattle.marker_core.specs.Layout.{bit_is_set, is_marked, is_traced}
use Rattle.marker_core.specs.Bodies.{field_word_count, refers, role_at, kinds_of_type, is_place, holds}
use Rattle.marker_core.specs.Hands.{role_at_hand, wants_word, wants}
use Rattle.marker_core.specs.Matching.{IsWhole}
use Rattle.marker_core.specs.Tracing.{HandFits, PartFits}
use Rattle.marker_core.specs.Views.{times, marks_at, traces_at, IsNoted, view_at}
use Rattle.marker_core.specs.Seats.{core_of}
use Rattle.marker_core.specs.MarkerSeats.{MarkerSide, seat_beside, marker_wants_word}
use Rattle.marker_core.specs.Core.{IsCoreOk}
use Rattle.marker_core.specs.MarkerFacts.{IsObjectHeader, MarkerMayFind, MarkerWordsMayBeFound, IsMarkerHand, IsMarkerOk, MarkersAreOk, LentWhileOn}
use Rattle.marker_core.specs.RoleOrder.{value_after_key}
use Rattle.marker_core.proofs.Apart.{body_of_place, same_place}
use Rattle.marker_core.proofs.Counts.{some_is_true, true_is_some}
use Rattle.marker_core.proofs.Edges.{refers_within, traced_refers}
use Rattle.marker_core.proofs.Headers.{mark_tells, traced_tells}
use Rattle.marker_core.proofs.Retold.{is_view, is_on, own_hand}
use Rattle.marker_core.proofs.SeatEnds.{some_times}
use Rattle.marker_core.proofs.Stops.{all_spent}
use Rattle.marker_core.proofs.Traces.{hand_or_none}
use Rattle.marker_core.proofs.Turns.{target_is_place}

-- one of a list of numbers is at most their sum
one_of_many : (f : MarkerView → ℕ) (views : List MarkerView) (v : MarkerView) → Contains views v → f v ≤ sum_by f views
one_of_many f views v h =
    let same : f (get_or views h.0 v) ≡ f v = ap f h.2 in
    let least : f (get_or views h.0 v) ≤ sum_by f views = get_or-le-sum_by f views h.0 v h.1 in
    omega (arith, same, least)

some_number : (n : ℕ) → (n ≡ 0 → ⊥) → 0 < n
some_number n some = elim (cases_eq n 0) [ inl none ↦ absurd (some none) | inr other ↦ omega (arith, other) ]

-- a pair's two words are among those of the declared fields
pair_within : (types : List (List Kind)) (ty i : ℕ) → role_at (kinds_of_type types ty) i ≡ KeyWord → i + 1 < field_word_count (kinds_of_type types ty)
pair_within types ty i role = refers_within (kinds_of_type types ty) (i + 1) (ap refers (value_after_key (kinds_of_type types ty) i role))

module _ (v : MarkerSide) (m : MutatorView) (words : List ℕ) (markers : List MarkerView) (number : ℕ) (ok : IsCoreOk (core_of (seat_beside v m) words markers)) (here : view_at markers number ≡ v.marker) (out : v.marker.spent ≡ false) where
  abbrev state : CoreState
  state = core_of (seat_beside v m) words markers

  abbrev marks : ℕ → ℕ
  marks = marks_at m markers

  abbrev traces : ℕ → ℕ
  traces = traces_at m markers

  is_out : (view_at markers number).spent ≡ false
  is_out = ap (λ (w : MarkerView). w.spent) here ∙ out

  is_in : Contains markers v.marker
  is_in = subst (Contains markers) here (is_view state ok number is_out)

  on : m.on ≡ true
  on = is_on state ok number is_out

  -- ---- marks and traced bits

  some_marks : (a : ℕ) → holds v.marked a ≡ true → 0 < marks a
  some_marks a own =
      let some = true_is_some (times a v.marked) (some_times a v.marked ∙ own) in
      let least = one_of_many (λ (w : MarkerView). times a w.marked) markers v.marker is_in in
      omega (arith, some, least)

  some_traces : (a : ℕ) → holds v.traced a ≡ true → 0 < traces a
  some_traces a own =
      let some = true_is_some (times a v.traced) (some_times a v.traced ∙ own) in
      let least = one_of_many (λ (w : MarkerView). times a w.traced) markers v.marker is_in in
      omega (arith, some, least)

  -- ---- places

  body_inside : (a : ℕ) → is_place m.bodies a ≡ true → a + 2 ≤ v.count
  body_inside a place =
      let at = body_of_place m.bodies a place in
      let whole : IsWhole v.count v.types at.0 = ok.bodies_are_whole at.0 at.1 in
      omega (arith, whole.inside, whole.room, at.2)

  marked_place : (a : ℕ) → holds v.marked a ≡ true → is_place m.bodies a ≡ true
  marked_place a own = ok.marks_counted_once.are_bodies a (some_marks a own)

  traced_place : (a : ℕ) → holds v.traced a ≡ true → is_place m.bodies a ≡ true
  traced_place a own =
      let some = some_traces a own in
      let most = ok.traced_are_marked a in
      ok.marks_counted_once.are_bodies a (omega (arith, some, most))

  -- ---- the hand

  fits : (h : Hand) → v.hand ≡ Some h → HandFits v.types m.bodies marks m.pending m.may h
  fits h own = ok.hands_are_bodies.hands h (own_hand state ok number is_out h (ap (λ (w : MarkerView). w.hand) here ∙ own))

  part_fits : (h : Hand) (own : v.hand ≡ Some h) (part : Part) → h.part ≡ part
      → PartFits m.bodies marks m.pending m.may (role_at_hand v.types h) (fits h own).body (h.next - 2) part
  part_fits h own part e =
      subst (PartFits m.bodies marks m.pending m.may (role_at_hand v.types h) (fits h own).body (h.next - 2)) e (fits h own).part

  hand_found : (h : Hand) → v.hand ≡ Some h → IsMarkerHand v h
  hand_found h own =
      let f = fits h own in
      let whole : IsWhole v.count v.types f.body = ok.bodies_are_whole f.body f.there in
      let past = f.past_serial in
      let room : 2 + field_word_count (kinds_of_type v.types h.ty) ≤ f.body.size =
      subst (λ ty. 2 + field_word_count (kinds_of_type v.types ty) ≤ f.body.size) f.ty whole.room in
      let low = refers_within (kinds_of_type v.types h.ty) (h.next - 2) (traced_refers (role_at_hand v.types h) f.at_hand) in
      record {
        known_type = omega (arith, whole.ty, f.ty);
        past_serial = past;
        at_hand = f.at_hand;
        within = omega (arith, low, past);
        pair_within = λ key. let two = pair_within v.types h.ty (h.next - 2) key in omega (arith, two, past);
        inside = omega (arith, room, whole.inside, f.place);
        target = λ t e. body_inside t (part_fits h own (Mark t) e).0;
        key = λ k e. (body_inside k (part_fits h own (Key k) e).0, (part_fits h own (Key k) e).1);
        value = λ e. (part_fits h own Value e).0;
      }

  -- ---- what a word tells

  marked_tells : (a : ℕ) → is_place m.bodies a ≡ true → is_marked words a ≡ ltb 0 (marks a)
  marked_tells a place =
      let at = body_of_place m.bodies a place in
      subst (λ p. is_marked words p ≡ ltb 0 (marks p)) at.2 (mark_tells words marks traces m.bodies ok.headers_match at.0 at.1)

  trace_tells : (a : ℕ) → is_place m.bodies a ≡ true → is_traced words a ≡ ltb 0 (traces a)
  trace_tells a place =
      let at = body_of_place m.bodies a place in
      subst (λ p. is_traced words p ≡ ltb 0 (traces p)) at.2 (traced_tells words marks traces m.bodies ok.headers_match at.0 at.1)

  header_found : (a : ℕ) → holds v.known a ≡ true → IsObjectHeader v a (get_or words a 0)
  header_found a known =
      let place : is_place m.bodies a ≡ true = ok.hands_are_bodies.known v.marker a is_in known in
      let at = body_of_place m.bodies a place in
      let b : Body = at.0 in
      let whole : IsWhole v.count v.types b = ok.bodies_are_whole b at.1 in
      let marked = marked_tells a place in
      let traced = trace_tells a place in
      let found : get_or words a 0 ≡ header_word true (ltb 0 (marks a)) (ltb 0 (traces a)) b.ty b.size =
      subst (λ p. get_or words p 0 ≡ header_word true (ltb 0 (marks p)) (ltb 0 (traces p)) b.ty b.size) at.2 (ok.headers_match b at.1) in
      record {
        ty = b.ty;
        size = b.size;
        word =
            found ∙ ap (λ x. header_word true x (ltb 0 (traces a)) b.ty b.size) (sym marked)
            ∙ ap (λ x. header_word true (is_marked words a) x b.ty b.size) (sym traced);
        known_type = whole.ty;
        room = whole.room;
        small = whole.size;
        inside = omega (arith, whole.inside, at.2);
        traced_is_marked = λ bit.
            let some = true_is_some (traces a) (sym traced ∙ bit) in
            let most = ok.traced_are_marked a in
            marked ∙ some_is_true (marks a) (omega (arith, some, most));
        in_hand = λ h own same.
            let f = fits h own in
            sym f.ty
            ∙ ap (λ (c : Body). c.ty)
            (same_place v.count v.types m.bodies ok.bodies_are_whole ok.bodies_lie_apart f.body b f.there at.1 (f.place ∙ same ∙ sym at.2));
      }

  reference_found : (a : ℕ) → marker_wants_word v a ≡ true
      → (get_or words a 0 ≡ 0) ⊎ ((0 < get_or words a 0) × (get_or words a 0 - 1 + 2 ≤ v.count))
  reference_found a wanted = elim (hand_or_none v.hand) [
    | inl none ↦ absurd (false≢true (sym (ap (wants (λ h. wants_word h h.part a)) none) ∙ wanted))
    | inr some ↦ elim (cases_eq (get_or words a 0) 0) [
      | inl null ↦ inl null
      | inr other ↦
          (let want : wants_word some.0 some.0.part a ≡ true = sym (ap (wants (λ h. wants_word h h.part a)) some.1) ∙ wanted in
          let held = own_hand state ok number is_out some.0 (ap (λ (w : MarkerView). w.hand) here ∙ some.1) in
          inr (
            omega (arith, other),
            body_inside (get_or words a 0 - 1) (target_is_place state ok on (IsNoted m markers) some.0 held a want other),
          ))
    ]
  ]

  pub marker_word_found : (a : ℕ) → MarkerMayFind v a (get_or words a 0)
  marker_word_found a = record {
    header = header_found a;
    marked = λ own. marked_tells a (marked_place a own) ∙ some_is_true (marks a) (some_marks a own);
    traced = λ own. trace_tells a (traced_place a own) ∙ some_is_true (traces a) (some_traces a own);
    done = λ own.
        let some : 0 < traces a = (ok.may_is_closed on).done_are_traced a (inr (v.marker, is_in, own)) in
        let most = ok.traced_are_marked a in
        trace_tells a (ok.marks_counted_once.are_bodies a (omega (arith, some, most))) ∙ some_is_true (traces a) some;
    start = λ p known at.
        let place : is_place m.bodies p ≡ true = ok.hands_are_bodies.known v.marker p is_in known in
        let inside = body_inside p place in
        ap (λ x. bit_is_set (get_or words x 0) (p % 64)) (sym at) ∙ ok.starts_match p (omega (arith, inside)) ∙ place;
    reference = reference_found a;
    stop = λ at halted. ap (λ x. get_or words x 0) at ∙ ok.quiet_while_off.halted_views v.marker is_in halted;
  }

  pub marker_view_ok : IsMarkerOk v
  marker_view_ok = record {
    are_types = ok.are_types;
    small = ok.has_room.small;
    bits = ok.has_room.bits;
    known_below = λ a known. body_inside a (ok.hands_are_bodies.known v.marker a is_in known);
    marked_below = λ a own. body_inside a (marked_place a own);
    traced_below = λ a own. body_inside a (traced_place a own);
    hand_is = hand_found;
  }

pub marker_words_may_be_found : MarkerWordsMayBeFound
marker_words_may_be_found v m words markers number a ok here out = marker_word_found v m words markers number ok here out a

pub markers_are_ok : MarkersAreOk
markers_are_ok v m words markers number ok here out = marker_view_ok v m words markers number ok here out

pub lent_while_on : LentWhileOn
lent_while_on v words markers number ok out =
    let s = core_of v words markers in (
      is_on s ok number out,
      some_number v.lent (λ none. both_ways (view_at markers number).spent out (all_spent s ok none (view_at markers number) (is_view s ok number out))),
    )
