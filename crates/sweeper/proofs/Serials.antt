-- The numbers of the dead bodies between two addresses, in the order of their places.
use Rattle.std.proofs.Common.{◌≡◌, ℕ, ◌+◌, ◌-◌, ◌<◌, ◌≤◌, true, false, not, map, List, [], ◌∷◌, ◌++◌, length, get_or, refl, sym, ap, ◌∙◌, subst, inl, inr, arith}
use Rattle.std.specs.List.{All, Contains}
use Rattle.std.proofs.lemmas.Bool.{true≢false, cases_lt, and_left}
use Rattle.std.proofs.lemmas.List.{map-append, length-append, get_or_append_left, get_or-append_right}
use Rattle.std.proofs.lemmas.List.Elements.{All-append, All-weaker, All-nil, All-cons, All-get_or, Contains-append_left, Contains-append_right}
use Rattle.marker_core.specs.declared.states.Body.{Body}
use Rattle.marker_core.specs.Bodies.{holds, no_body}
use Rattle.page_space.specs.Seat.{SeatView, OnlyLooked}
use Rattle.page_space.specs.Space.{HasNoStart}
use Rattle.sweeper.specs.Sweeping.{swept_in, is_dead_in, IsDeadBetween, AreDeadSerials}
use Rattle.gc_graph.specs.Members.{Contains-head, was_in, stays_in}
use Rattle.sweeper.proofs.Places.{behind, outside_behind}

abbrev serial_of : Body → ℕ
serial_of b = b.serial

-- no object starts there
pub serials_none : (from until : ℕ) (v : SeatView) → HasNoStart v.bodies from until → AreDeadSerials from until v []
serials_none from until v none = record {
  dead = [];
  numbers_are = refl;
  each = All-nil (IsDeadBetween from until v);
  whole = λ b is. absurd (none b.place is.first is.last (b, is.there, refl));
  ascending = λ i j before low. absurd (omega arith);
}

-- one body alone has its place there, and isn't dead
pub serials_kept : (a : ℕ) (v : SeatView) → holds v.dead a ≡ false → AreDeadSerials a (a + 1) v []
serials_kept a v alive = record {
  dead = [];
  numbers_are = refl;
  each = All-nil (IsDeadBetween a (a + 1) v);
  whole = λ b is.
      let here : b.place ≡ a = omega (arith, is.first, is.last) in
      absurd (true≢false (sym is.dead ∙ ap (holds v.dead) here ∙ alive));
  ascending = λ i j before low. absurd (omega arith);
}

-- one body alone has its place there, and is dead
pub serials_one : (a : ℕ) (v : SeatView) (b : Body) → Contains v.bodies b → b.place ≡ a → holds v.dead a ≡ true
    → ((c : Body) → Contains v.bodies c → c.place ≡ a → b ≡ c) → AreDeadSerials a (a + 1) v (b.serial ∷ [])
serials_one a v b there at gone alone = record {
  dead = b ∷ [];
  numbers_are = refl;
  each = All-cons (IsDeadBetween a (a + 1) v) b [] (record {
    there = there;
    dead = ap (holds v.dead) at ∙ gone;
    first = omega arith;
    last = omega arith;
  }) (All-nil (IsDeadBetween a (a + 1) v));
  whole = λ c is. subst (λ x. Contains (b ∷ []) x) (alone c is.there (omega (arith, is.first, is.last))) (Contains-head b []);
  ascending = λ i j before low. absurd (omega arith);
}

-- a dead body that the second part tells was there at first
was_dead : (from mid until : ℕ) (v : SeatView) (b : Body) → from ≤ mid → IsDeadBetween mid until (swept_in from mid v) b → IsDeadBetween from until v b
was_dead from mid until v b early is = record {
  there = was_in (λ c. not (is_dead_in from mid v c)) v.bodies b is.there;
  dead = sym (outside_behind from mid v.dead b.place is.first) ∙ is.dead;
  first = omega (arith, is.first);
  last = is.last;
}

-- a dead body from the middle on is told by the second part
is_still_dead : (from mid until : ℕ) (v : SeatView) (b : Body) → mid ≤ b.place → IsDeadBetween from until v b → IsDeadBetween mid until (swept_in from mid v) b
is_still_dead from mid until v b late is = record {
  there =
      stays_in (λ c. not (is_dead_in from mid v c)) v.bodies b is.there
      (ap not (and_left _ (holds v.dead b.place) (behind from mid b.place late)));
  dead = outside_behind from mid v.dead b.place late ∙ is.dead;
  first = late;
  last = is.last;
}

abbrev Ascends : List Body → Type 0
Ascends dead = (i j : ℕ) → i < j → j < length dead → (get_or dead i no_body).place < (get_or dead j no_body).place

ascends : (mid : ℕ) (low high : List Body) → All (λ b. b.place < mid) low → All (λ b. mid ≤ b.place) high → Ascends low → Ascends high → Ascends (low ++ high)
ascends mid low high below above first second i j before inside = elim (cases_lt j (length low)) [
  | inl early ↦
      (let left : get_or (low ++ high) i no_body ≡ get_or low i no_body = get_or_append_left low high no_body i (omega arith) in
      let right : get_or (low ++ high) j no_body ≡ get_or low j no_body = get_or_append_left low high no_body j early in
      subst (λ (b : Body). b.place < (get_or (low ++ high) j no_body).place) (sym left)
      (subst (λ (b : Body). (get_or low i no_body).place < b.place) (sym right) (first i j before early)))
  | inr late ↦
      (let right : get_or (low ++ high) j no_body ≡ get_or high (j - length low) no_body = get_or-append_right low high (length low) j no_body refl late in
      let within : j - length low < length high = omega (arith, length-append low high) in
      elim (cases_lt i (length low)) [
        | inl early ↦
            (let left : get_or (low ++ high) i no_body ≡ get_or low i no_body = get_or_append_left low high no_body i early in
            let under : (get_or low i no_body).place < mid = All-get_or (λ (b : Body). b.place < mid) low i no_body early below in
            let over : mid ≤ (get_or high (j - length low) no_body).place = All-get_or (λ (b : Body). mid ≤ b.place) high (j - length low) no_body within above in
            omega (arith, under, over, ap (λ (b : Body). b.place) left, ap (λ (b : Body). b.place) right))
        | inr behind ↦
            (let left : get_or (low ++ high) i no_body ≡ get_or high (i - length low) no_body =
            get_or-append_right low high (length low) i no_body refl behind in
            let order : (get_or high (i - length low) no_body).place < (get_or high (j - length low) no_body).place =
            second (i - length low) (j - length low) (omega arith) within in
            omega (arith, order, ap (λ (b : Body). b.place) left, ap (λ (b : Body). b.place) right))
      ])
]

-- first the one part, and then the other
pub serials_on : (from mid until : ℕ) (v : SeatView) (xs ys : List ℕ) → from ≤ mid → mid ≤ until → AreDeadSerials from mid v xs
    → AreDeadSerials mid until (swept_in from mid v) ys → AreDeadSerials from until v (xs ++ ys)
serials_on from mid until v xs ys early late first second = record {
  dead = first.dead ++ second.dead;
  numbers_are =
      ap (λ l. l ++ ys) first.numbers_are ∙ ap (λ l. map serial_of first.dead ++ l) second.numbers_are ∙ sym (map-append serial_of first.dead second.dead);
  each =
      All-append (IsDeadBetween from until v) first.dead second.dead
      (All-weaker (IsDeadBetween from mid v) (IsDeadBetween from until v) (λ b is. record {
        there = is.there;
        dead = is.dead;
        first = is.first;
        last = omega (arith, is.last);
      }) first.dead first.each)
      (All-weaker (IsDeadBetween mid until (swept_in from mid v)) (IsDeadBetween from until v) (λ b is. was_dead from mid until v b early is) second.dead second.each);
  whole = λ b is. elim (cases_lt b.place mid) [
    | inl low ↦
        Contains-append_left first.dead second.dead b
        (first.whole b (record { there = is.there; dead = is.dead; first = is.first; last = low }))
    | inr high ↦ Contains-append_right first.dead second.dead b (second.whole b (is_still_dead from mid until v b high is))
  ];
  ascending =
      ascends mid first.dead second.dead (All-weaker (IsDeadBetween from mid v) (λ b. b.place < mid) (λ b is. is.last) first.dead first.each)
      (All-weaker (IsDeadBetween mid until (swept_in from mid v)) (λ b. mid ≤ b.place) (λ b is. is.first) second.dead second.each) first.ascending
      second.ascending;
}

-- headers were looked at: the same are dead
dead_looked : (from until : ℕ) (v w : SeatView) → OnlyLooked v w → (b : Body) → IsDeadBetween from until w b → IsDeadBetween from until v b
dead_looked from until v w same b is = record {
  there = subst (λ bs. Contains bs b) (ap (λ (x : SeatView). x.bodies) same) is.there;
  dead = ap (λ (x : SeatView). holds x.dead b.place) (sym same) ∙ is.dead;
  first = is.first;
  last = is.last;
}

pub serials_looked : (from until : ℕ) (v w : SeatView) (numbers : List ℕ) → OnlyLooked v w → AreDeadSerials from until w numbers
    → AreDeadSerials from until v numbers
serials_looked from until v w numbers same are = record {
  dead = are.dead;
  numbers_are = are.numbers_are;
  each = All-weaker (IsDeadBetween from until w) (IsDeadBetween from until v) (λ b is. dead_looked from until v w same b is) are.dead are.each;
  whole = λ b is. are.whole b (dead_looked from until w v (sym same) b is);
  ascending = are.ascending;
}
