-- The steps of a marker as its seat sees them: what each makes of the view, given the word that it found. What it makes of the
-- words is in `MarkerSteps`.
use Rattle.std.specs.Prelude.{ℕ, ◌+◌, ◌-◌, ◌==◌, ◌&&◌, ◌||◌, not, Bool, List, [], ◌∷◌, ◌++◌, if◌then◌else◌, Some}
use Rattle.std.specs.Option.{is_none}
use Rattle.gc_graph.specs.declared.kind.Kind.{Kind}
use Rattle.marker_core.specs.declared.states.MarkerView.{MarkerView}
use Rattle.marker_core.specs.declared.states.MutatorView.{MutatorView}
use Rattle.marker_core.specs.Layout.{has_mark, has_traced}
use Rattle.marker_core.specs.Hands.{hand_claimed, hand_read, hand_looked, hand_moved, wants_word, wants_key, wants_mark, wants, noted_pair, each_hand}
use Rattle.marker_core.specs.MarkerSteps.{known_by}
use Rattle.marker_core.specs.Seats.{SeatSide}

-- so many words, these types and this view of a marker; what stands in the view is told of the side too
pub record MarkerSide : Type 0 where
  pub count : ℕ
  pub types : List (List Kind)
  pub marker : MarkerView
  pub open marker use *

-- the mutator's side of a state in which a marker has this side, for a view of the mutator
abbrev pub seat_beside : MarkerSide → MutatorView → SeatSide
seat_beside v m = record { count = v.count; types = v.types; mutator = m }

-- ---- a view is lent, and given back

-- the mutator has lent one view more
abbrev pub seat_lent : SeatSide → MutatorView
seat_lent v = record v.mutator { lent = v.lent + 1 }

-- the mutator knows what the view knew that was given back
abbrev pub seat_joined : SeatSide → MarkerView → MutatorView
seat_joined v given = record v.mutator {
  marked = v.marked ++ given.marked;
  traced = v.traced ++ given.traced;
  noted = v.noted ++ given.noted;
  done = v.done ++ given.done;
  missed = v.missed ++ given.missed;
  lent = v.lent - 1;
}

-- ---- a start bit and the stop word are read

-- a place whose start bit was found set is known from then on, and any other is missed
abbrev pub marker_found_start : MarkerSide → ℕ → Bool → MarkerView
marker_found_start v a set = record v.marker {
  known = if set then v.known ++ a ∷ [] else v.known;
  missed = if set then v.missed else v.missed ++ a ∷ [];
}

-- a view that was told to stop is halted
abbrev pub marker_polled : MarkerSide → Bool → MarkerView
marker_polled v stop = record v.marker { halted = v.halted || stop }

-- ---- a header is read

-- the header at a was read, which may be that of the key in hand
abbrev pub marker_looked : MarkerSide → ℕ → ℕ → MarkerView
marker_looked v a header =
    let key = wants (λ h. wants_key h.part a) v.hand in
    record v.marker {
      hand = if key then each_hand (hand_looked v.types header) v.hand else v.hand;
      noted = if key then v.noted ++ noted_pair header v.hand else v.noted;
      done = if has_traced header then v.done ++ a ∷ [] else v.done;
      missed = if is_none v.hand && not (has_mark header) && not (has_traced header) then v.missed ++ a ∷ [] else v.missed;
      last = Some (a, header);
    }

-- ---- an object is claimed by the header that was read last

-- the object is traced and in the hand where the header is still the one that was read; else it is done or missed
abbrev pub marker_claimed : MarkerSide → ℕ → ℕ → ℕ → MarkerView
marker_claimed v a header found =
    if found == header
    then record v.marker { traced = v.traced ++ a ∷ []; hand = hand_claimed v.types a found }
    else record v.marker {
      done = if has_traced found then v.done ++ a ∷ [] else v.done;
      missed = if has_traced found then v.missed else v.missed ++ a ∷ [];
    }

-- ---- the object in hand is traced

-- the hand wants the word at a
abbrev pub marker_wants_word : MarkerSide → ℕ → Bool
marker_wants_word v a = wants (λ h. wants_word h h.part a) v.hand

-- the hand has read w in the word that it wanted
abbrev pub marker_read : MarkerSide → ℕ → MarkerView
marker_read v w = record v.marker { hand = each_hand (hand_read v.types w) v.hand; known = v.known ++ known_by w }

-- the hand wants the object at a to be marked
abbrev pub marker_wants_mark : MarkerSide → ℕ → Bool
marker_wants_mark v a = wants (λ h. wants_mark h.part a) v.hand

-- the object at a was marked, which had the mark already or not, and the hand moved on
abbrev pub marker_marked : MarkerSide → ℕ → Bool → MarkerView
marker_marked v a was = record v.marker {
  marked = if was then v.marked else v.marked ++ a ∷ [];
  hand = each_hand (hand_moved v.types) v.hand;
}
