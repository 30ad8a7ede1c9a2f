-- The steps of the mutator as its seat sees them: when each is allowed, and what it makes of the view, given the word that it
-- found. What it makes of the words is in `MutatorSteps` and `CycleSteps`.
use Rattle.std.specs.Prelude.{ℕ, ◌+◌, ◌^◌, ◌==◌, ◌&&◌, ◌||◌, not, nat_le, nat_lt, Bool, true, false, List, [], ◌∷◌, ◌++◌, length, map, filter, if◌then◌else◌, Option, Some, None}
use Rattle.std.specs.Option.{is_none}
use Rattle.std.specs.List.{list_any, list_all, range_with_len}
use Rattle.gc_graph.specs.declared.kind.Kind.{Kind}
use Rattle.object_headers.specs.Layout.{header_word}
use Rattle.marker_core.specs.declared.states.Body.{Body}
use Rattle.marker_core.specs.declared.states.MutatorView.{MutatorView}
use Rattle.marker_core.specs.declared.states.Role.{Role}
use Rattle.marker_core.specs.declared.states.Role.TheVariants.{KeyWord}
use Rattle.marker_core.specs.declared.states.Why.{Why}
use Rattle.marker_core.specs.declared.states.Why.TheVariants.{Read, Weak, Trace}
use Rattle.marker_core.specs.Layout.{stop_at, has_mark, has_traced}
use Rattle.marker_core.specs.Bodies.{field_word_count, refers, keeps, kinds_of_type, word_in, role_in, end_of, body_has_word, has_field, field_number, with_word, places, is_place, in_body, names_body, refers_to, holds, without, place_named}
use Rattle.marker_core.specs.Closed.{closes_over, reach_over}
use Rattle.marker_core.specs.Hands.{hand_claimed, hand_read, hand_looked, hand_after_mark, wants_word, wants_key, wants, noted_pair, each_hand}
use Rattle.marker_core.specs.Seats.{SeatSide}

-- ---- load

-- any word is read; a weak read loads a header; and to trace, the mutator loads what its hand wants
abbrev pub seat_can_load : SeatSide → ℕ → Why → Bool
seat_can_load v a Read = nat_le a (stop_at v.count)
seat_can_load v a Weak = is_place v.bodies a
seat_can_load v a Trace = wants (λ h. wants_word h h.part a || wants_key h.part a) v.hand

-- a header that was loaded is looked at, and while marking goes on it is done where it was traced
abbrev pub seat_looked : SeatSide → ℕ → ℕ → MutatorView
seat_looked v a found = record v.mutator {
  looked = if is_place v.bodies a then v.looked ++ a ∷ [] else v.looked;
  done = if v.on && is_place v.bodies a && has_traced found then v.done ++ a ∷ [] else v.done;
}

-- a weak read while marking goes on may keep what it gave, with all that it reaches
abbrev pub may_after_read : SeatSide → ℕ → List ℕ
may_after_read v a = if v.on then reach_over v.count v.types v.bodies (v.may ++ a ∷ []) else v.may

-- the hand has taken the word that it wanted
abbrev pub hand_served : SeatSide → ℕ → ℕ → MutatorView → MutatorView
hand_served v a found m =
    if wants (λ h. wants_key h.part a) m.hand
    then record m { hand = each_hand (hand_looked v.types found) m.hand; noted = m.noted ++ noted_pair found m.hand }
    else record m { hand = each_hand (hand_read v.types found) m.hand }

-- the word at a was loaded
abbrev pub seat_loaded : SeatSide → ℕ → Why → ℕ → MutatorView
seat_loaded v a Read found = seat_looked v a found
seat_loaded v a Weak found = record (seat_looked v a found) { may = may_after_read v a }
seat_loaded v a Trace found = hand_served v a found (seat_looked v a found)

-- ---- fill

-- only words of the heap outside all bodies are filled
abbrev pub seat_can_fill : SeatSide → ℕ → Bool
seat_can_fill v a = nat_lt a v.count && not (in_body v.bodies a)

-- the word at a was filled with w, in place of an older one
abbrev pub seat_filled : SeatSide → ℕ → ℕ → MutatorView
seat_filled v a w = record v.mutator { filled = (a, w) ∷ filter (λ f. not (f.0 == a)) v.filled }

-- ---- store

-- a null key stands over a null value; while marking goes on, a key that is not null stands over a value that is null or
-- was seen marked
abbrev pub key_fits : Bool → List ℕ → Role → ℕ → ℕ → Bool
key_fits on seen KeyWord w value =
    if w == 0 then value == 0 else (not on || (value == 0) || holds seen (place_named value))
key_fits on seen role w value = true

-- while marking goes on, holder and target are among what may be kept
abbrev pub may_store : Bool → List ℕ → ℕ → Role → ℕ → Bool
may_store on may holder role w = not on || (holds may holder && (not (refers role) || (w == 0) || holds may (place_named w)))

-- w may be stored at a in a field of this body
abbrev pub store_fits : SeatSide → ℕ → ℕ → Body → Bool
store_fits v a w b =
    let i = field_number a b in
    let role = role_in v.types b i in
    has_field a b
    && (not (refers role) || names_body v.bodies w)
    && may_store v.on v.may b.place role w
    && key_fits v.on v.seen role w (word_in b (i + 1))

-- nothing waits for its mark and nothing is being traced, and the word is a field in which w fits
abbrev pub seat_can_store : SeatSide → ℕ → ℕ → Bool
seat_can_store v a w = is_none v.pending && is_none v.hand && list_any (store_fits v a w) v.bodies

-- the word at a is a field of the body whose target has to be marked
abbrev pub keeps_in : List (List Kind) → ℕ → Body → Bool
keeps_in types a b = has_field a b && keeps (role_in types b (field_number a b))

-- while marking goes on, a target that was stored in a strong word or as a pair's value waits for its mark
abbrev pub seat_stored : SeatSide → ℕ → ℕ → MutatorView
seat_stored v a w = record v.mutator {
  bodies = map (with_word a w) v.bodies;
  pending = if v.on && not (w == 0) && list_any (keeps_in v.types a) v.bodies then Some (place_named w) else v.pending;
}

-- ---- publish

-- the two share a word
abbrev pub overlaps : Body → Body → Bool
overlaps b c = nat_lt b.place (end_of c) && nat_lt c.place (end_of b)

-- its header is live, unmarked and untraced, of a type and of a size that holds the type's fields; its references are null
abbrev pub is_whole_object : List (List Kind) → ℕ → Body → Bool
is_whole_object types header b =
    (header == header_word true false false b.ty b.size)
    && nat_lt b.ty (length types)
    && nat_le (2 + field_word_count (kinds_of_type types b.ty)) b.size
    && nat_lt b.size (2 ^ 26)
    && list_all (λ i. not (refers (role_in types b i)) || (word_in b i == 0)) (range_with_len 0 (length b.fields))

-- a serial number of 32 bits that no body has
abbrev pub is_new_serial : List Body → ℕ → Bool
is_new_serial bodies serial = nat_lt serial (2 ^ 32) && not (list_any (λ b. b.serial == serial) bodies)

-- the object is a body, and its words are no longer filled ones
abbrev pub seat_published : SeatSide → Body → MutatorView
seat_published v b = record v.mutator {
  bodies = v.bodies ++ b ∷ [];
  filled = filter (λ f. not (body_has_word f.0 b)) v.filled;
  may = if v.on then v.may ++ b.place ∷ [] else v.may;
}

-- ---- retract

-- no body that isn't dead refers to the dead one
abbrev pub seat_can_retract : SeatSide → ℕ → Bool
seat_can_retract v a =
    not v.on && holds v.dead a && not (list_any (λ b. not (holds v.dead b.place) && refers_to v.types a b) v.bodies)

-- the dead object at a is no body any more
abbrev pub seat_retracted : SeatSide → ℕ → MutatorView
seat_retracted v a = record v.mutator { bodies = filter (λ b. not (b.place == a)) v.bodies; dead = without v.dead a }

-- ---- mark

-- while marking goes on, a body that may be kept is marked
abbrev pub seat_can_mark : SeatSide → ℕ → Bool
seat_can_mark v a = v.on && is_place v.bodies a && holds v.may a

-- what waits for its mark once a has it
abbrev pub settled : Option ℕ → ℕ → Option ℕ
settled None a = None
settled (Some t) a = if t == a then None else Some t

-- the object at a was marked, which had the mark already or not
abbrev pub seat_marked : SeatSide → ℕ → Bool → MutatorView
seat_marked v a was = record v.mutator {
  marked = if was then v.marked else v.marked ++ a ∷ [];
  seen = v.seen ++ a ∷ [];
  pending = settled v.pending a;
  hand = each_hand (hand_after_mark v.types a) v.hand;
}

-- ---- claim and unmark

-- while marking goes on, an empty hand claims a body
abbrev pub seat_can_claim : SeatSide → ℕ → Bool
seat_can_claim v a = v.on && is_none v.hand && is_place v.bodies a

-- the header is marked and not yet traced
abbrev pub is_grey : ℕ → Bool
is_grey header = has_mark header && not (has_traced header)

-- a grey object is traced and in the hand; of any other the header was looked at
abbrev pub seat_claimed : SeatSide → ℕ → ℕ → MutatorView
seat_claimed v a found = record v.mutator {
  looked = v.looked ++ a ∷ [];
  traced = if is_grey found then v.traced ++ a ∷ [] else v.traced;
  hand = if is_grey found then hand_claimed v.types a found else v.hand;
  done = if has_traced found then v.done ++ a ∷ [] else v.done;
  missed = if has_mark found then v.missed else v.missed ++ a ∷ [];
}

-- while no marking goes on, the marks of a body are cleared
abbrev pub seat_can_unmark : SeatSide → ℕ → Bool
seat_can_unmark v a = not v.on && is_place v.bodies a

-- the header at a has neither mark nor traced bit
abbrev pub seat_unmarked : SeatSide → ℕ → MutatorView
seat_unmarked v a = record v.mutator { marked = without v.marked a; traced = without v.traced a }

-- ---- marking begins

-- both words of a pair are null, or neither is
abbrev pub pair_is_whole : Role → ℕ → ℕ → Bool
pair_is_whole KeyWord key value = if key == 0 then value == 0 else not (value == 0)
pair_is_whole role key value = true

-- each pair of a body has two null words or none
abbrev pub pairs_are_whole : List (List Kind) → Body → Bool
pairs_are_whole types b =
    list_all (λ i. pair_is_whole (role_in types b i) (word_in b i) (word_in b (i + 1))) (range_with_len 0 (length b.fields))

-- nothing is left of an earlier cycle
abbrev pub seat_can_begin : SeatSide → Bool
seat_can_begin v =
    not v.on
    && (length v.marked == 0)
    && (length v.traced == 0)
    && (length v.noted == 0)
    && (length v.dead == 0)
    && (v.lent == 0)
    && list_all (pairs_are_whole v.types) v.bodies

-- marking has begun from these roots
abbrev pub seat_begun : SeatSide → List ℕ → MutatorView
seat_begun v roots = record v.mutator {
  on = true;
  may = reach_over v.count v.types v.bodies roots;
  seen = [];
  done = [];
  missed = [];
  looked = [];
}

-- ---- marking ends, where no view is lent

-- no hand, nothing that waits for its mark, no grey body, and what is marked is closed
abbrev pub seat_can_end : SeatSide → Bool
seat_can_end v =
    is_none v.hand
    && is_none v.pending
    && list_all (λ a. not (holds v.marked a) || holds v.traced a) (places v.bodies)
    && closes_over v.types (holds v.marked) v.bodies

-- the places of the bodies without a mark
abbrev pub unmarked_places : SeatSide → List ℕ
unmarked_places v = filter (λ a. not (holds v.marked a)) (places v.bodies)

-- marking has ended, and these places are dead
abbrev pub ended_with : SeatSide → List ℕ → MutatorView
ended_with v dead = record v.mutator {
  on = false;
  dead = dead;
  early = length v.looked;
  noted = [];
  seen = [];
  done = [];
  may = [];
}

-- marking has ended, and what has no mark is dead
abbrev pub seat_ended : SeatSide → MutatorView
seat_ended v = ended_with v (unmarked_places v)
