-- How what was swept grows: by nothing, by one object, and from one part to the next.
use Rattle.std.proofs.Common.{◌≡◌, ℕ, ◌+◌, ◌<◌, ◌≤◌, Bool, true, false, not, ◌&&◌, List, [], ◌∷◌, ◌++◌, append_assoc, append-nil, refl, sym, ap, ◌∙◌, subst, inl, inr, arith, eqb}
use Rattle.std.specs.List.{All, Contains, filter}
use Rattle.std.proofs.lemmas.Bool.{true≢false, not-true, cases_Bool, cases_eq, cases_lt, and_left, and_right, and_from, and_parts, false_from_ne_true, eq-eqb, ne_eqb}
use Rattle.std.proofs.lemmas.List.{length_push}
use Rattle.std.proofs.lemmas.List.Elements.{All-filter, filter_agree}
use Rattle.marker_core.specs.Bodies.{IsPlace, holds, without}
use Rattle.marker_core.specs.declared.states.Body.{Body}
use Rattle.page_space.specs.Seat.{SeatView, IsView, OnlyLooked, unlooked, unmarked_at, retracted}
use Rattle.page_space.specs.Pages.{is_between}
use Rattle.page_space.specs.Space.{HasNoStart}
use Rattle.sweeper.specs.OutsidePlaces.{outside_holds}
use Rattle.sweeper.specs.Sweeping.{IsJudgedFrom, DeadAreUnnamed, IsClearBelow, outside, is_dead_in, swept_in, Sweeps, dead_between}
use Rattle.sweeper.proofs.Filters.{filter_filter, filter_all}
use Rattle.gc_graph.specs.Members.{was_in, has_passed}
use Rattle.sweeper.proofs.Places.{between, before, behind, later, is_first, is_last, outside_on, outside_all, outside_one, outside_behind, outside_before, outside_between, only}
use Rattle.sweeper.proofs.Serials.{serials_none, serials_kept, serials_one, serials_on, serials_looked}
use Rattle.sweeper.proofs.Counts.{count_less, count_fewer, count_some}
use Rattle.page_space.specs.BodyPlaces.{two_words, same_body}

-- ---- what holds at no body's place holds nowhere

pub unmarked_without_body : (v : SeatView) (x : ℕ) → IsView v → (IsPlace v.bodies x → ⊥) → holds v.marked x ≡ false
unmarked_without_body v x view none = false_from_ne_true (holds v.marked x) (λ marked. none (view.marked_are_bodies x marked))

pub undead_without_body : (v : SeatView) (x : ℕ) → IsView v → (IsPlace v.bodies x → ⊥) → holds v.dead x ≡ false
undead_without_body v x view none = false_from_ne_true (holds v.dead x) (λ dead. none (view.dead_are_unmarked x dead).0)

pub untraced_without_body : (v : SeatView) (x : ℕ) → IsView v → (IsPlace v.bodies x → ⊥) → holds v.traced x ≡ false
untraced_without_body v x view none = false_from_ne_true (holds v.traced x) (λ traced. none (view.traced_are_bodies x traced))

-- ---- while no marking goes on, what is traced is marked

untraced_if_unmarked : (v : SeatView) (x : ℕ) → IsView v → v.on ≡ false → holds v.marked x ≡ false → holds v.traced x ≡ false
untraced_if_unmarked v x view off unmarked =
    false_from_ne_true (holds v.traced x) (λ traced. true≢false (sym (view.traced_are_marked (view.at_rest off).none_lent x traced) ∙ unmarked))

pub undead_if_marked : (v : SeatView) (x : ℕ) → IsView v → holds v.marked x ≡ true → holds v.dead x ≡ false
undead_if_marked v x view marked = false_from_ne_true (holds v.dead x) (λ dead. true≢false (sym marked ∙ (view.dead_are_unmarked x dead).1))

-- ---- views that differ in nothing

abbrev pub changed : SeatView → List Body → List ℕ → List ℕ → List ℕ → SeatView
changed v bodies marked traced dead = record v { mutator = record v.mutator { bodies = bodies; marked = marked; traced = traced; dead = dead } }

pub changed_same : (v : SeatView) (b c : List Body) (m n t u d e : List ℕ) → b ≡ c → m ≡ n → t ≡ u → d ≡ e → changed v b m t d ≡ changed v c n u e
changed_same v b c m n t u d e bodies marked traced dead =
    ap (λ x. changed v x m t d) bodies ∙ ap (λ x. changed v c x t d) marked ∙ ap (λ x. changed v c n x d) traced ∙ ap (λ x. changed v c n u x) dead

-- ---- how many dead there are

-- from a later address on there are no more
fewer_dead : (from mid end : ℕ) (v : SeatView) → from ≤ mid → dead_between mid end v ≤ dead_between from end v
fewer_dead from mid end v early =
    count_fewer (is_dead_in from end v) (is_dead_in mid end v) v.bodies
    (λ b is. let both = and_parts (is_between mid end b.place) (holds v.dead b.place) is in and_from _ _ (later from mid end b.place early both.0) both.1)

-- and past one that is gone there is one less
one_dead_less : (a end : ℕ) (v : SeatView) (b : Body) → Contains v.bodies b → b.place ≡ a → holds v.dead a ≡ true → a + 1 ≤ end
    → 1 + dead_between (a + 1) end (retracted v a) ≤ dead_between a end v
one_dead_less a end v b there at gone far =
    count_less (is_dead_in a end v) (λ c. is_between (a + 1) end c.place && holds (without v.dead a) c.place)
    (λ (c : Body). not (eqb c.place a)) v.bodies b
    (λ c _ is. let both = and_parts (is_between (a + 1) end c.place) (holds (without v.dead a) c.place) is in
    and_from _ _ (later a (a + 1) end c.place (omega arith) both.0)
    (sym (outside_behind a (a + 1) v.dead c.place (is_first (a + 1) end c.place both.0)) ∙ ap (λ l. holds l c.place) (sym (outside_one v.dead a)) ∙ both.1))
    there (and_from _ _ (between a end b.place (omega (arith, at)) (omega (arith, at))) (ap (holds v.dead) at ∙ gone)) (ap not (eq-eqb b.place a at))

-- ---- nothing to sweep

pub nothing : (from until : ℕ) (v : SeatView) (numbers : List ℕ) → IsView v → from ≤ until → HasNoStart v.bodies from until
    → Sweeps from until v numbers v numbers
nothing from until v numbers view order none =
    record {
      view =
          ap unlooked (changed_same v v.bodies (filter (λ b. not (is_dead_in from until v b)) v.bodies) v.marked (outside from until v.marked) v.traced
          (outside from until v.traced) v.dead (outside from until v.dead)
          (sym (filter_all (λ b. not (is_dead_in from until v b)) v.bodies (λ b there. ap not (and_left _ (holds v.dead b.place)
          (false_from_ne_true (is_between from until b.place) (λ is.
          none b.place (is_first from until b.place is) (is_last from until b.place is) (b, there, refl)))))))
          (sym (outside_all from until v.marked (λ x first last. unmarked_without_body v x view (none x first last))))
          (sym (outside_all from until v.traced (λ x first last. untraced_without_body v x view (none x first last))))
          (sym (outside_all from until v.dead (λ x first last. undead_without_body v x view (none x first last)))));
      told = record { numbers = []; are = serials_none from until v none; follow = sym (append-nil numbers) };
      few = λ end far. (let fewer = fewer_dead from until end v order in omega arith);
    }

-- ---- one object

-- a marked body: its mark is cleared
pub one_kept : (a : ℕ) (v : SeatView) (numbers : List ℕ) → IsView v → holds v.marked a ≡ true → Sweeps a (a + 1) v numbers (unmarked_at v a) numbers
one_kept a v numbers view marked =
    let alive : holds v.dead a ≡ false = undead_if_marked v a view marked in
    record {
      view =
          ap unlooked (changed_same v v.bodies (filter (λ b. not (is_dead_in a (a + 1) v b)) v.bodies) (without v.marked a) (outside a (a + 1) v.marked)
          (without v.traced a) (outside a (a + 1) v.traced) v.dead (outside a (a + 1) v.dead)
          (sym (filter_all (λ b. not (is_dead_in a (a + 1) v b)) v.bodies (λ b there. ap not (elim (cases_eq b.place a) [
            | inl here ↦ and_right (is_between a (a + 1) b.place) _ (ap (holds v.dead) here ∙ alive)
            | inr other ↦ and_left _ (holds v.dead b.place) (only a b.place ∙ ne_eqb b.place a other)
          ]))))
          (outside_one v.marked a) (outside_one v.traced a)
          (sym (outside_all a (a + 1) v.dead (λ x first last. let here : x ≡ a = omega arith in ap (holds v.dead) here ∙ alive))));
      told = record { numbers = []; are = serials_kept a v alive; follow = sym (append-nil numbers) };
      few = λ end far. (let fewer = fewer_dead a (a + 1) end v (omega arith) in omega arith);
    }

-- a dead body: it is no longer there, and its number follows the others
pub one_gone : (a : ℕ) (v : SeatView) (b : Body) (numbers : List ℕ) → IsView v → v.on ≡ false → Contains v.bodies b → b.place ≡ a → holds v.dead a ≡ true
    → Sweeps a (a + 1) v numbers (retracted v a) (numbers ++ b.serial ∷ [])
one_gone a v b numbers view off there at gone =
    let unmarked : holds v.marked a ≡ false = (view.dead_are_unmarked a gone).1 in
    let clear : (x : ℕ) → a ≤ x → x < a + 1 → holds v.marked x ≡ false =
    λ x first last. let here : x ≡ a = omega arith in ap (holds v.marked) here ∙ unmarked in
    record {
      view =
          ap unlooked (changed_same v (filter (λ (c : Body). not (eqb c.place a)) v.bodies) (filter (λ c. not (is_dead_in a (a + 1) v c)) v.bodies) v.marked
          (outside a (a + 1) v.marked) v.traced (outside a (a + 1) v.traced) (without v.dead a) (outside a (a + 1) v.dead)
          (filter_agree (λ (c : Body). not (eqb c.place a)) (λ c. not (is_dead_in a (a + 1) v c)) (λ c. ap not (elim (cases_eq c.place a) [
            | inl here ↦
                eq-eqb c.place a here
                ∙ sym (and_from _ _ (only a c.place ∙ eq-eqb c.place a here) (ap (holds v.dead) here ∙ gone))
            | inr other ↦
                ne_eqb c.place a other
                ∙ sym (and_left _ (holds v.dead c.place) (only a c.place ∙ ne_eqb c.place a other))
          ])) v.bodies)
          (sym (outside_all a (a + 1) v.marked clear))
          (sym (outside_all a (a + 1) v.traced (λ x first last. untraced_if_unmarked v x view off (clear x first last)))) (outside_one v.dead a));
      told = record {
        numbers = b.serial ∷ [];
        are = serials_one a v b there at gone (λ c c_there here. same_body v b c view there c_there (at ∙ sym here));
        follow = refl;
      };
      few = λ end far. (let fewer = one_dead_less a end v b there at gone far in omega (arith, fewer, length_push numbers b.serial));
    }

pub dead_here : (a : ℕ) (v : SeatView) (b : Body) → Contains v.bodies b → b.place ≡ a → holds v.dead a ≡ true → 1 ≤ dead_between a (a + 1) v
dead_here a v b there at gone =
    count_some (is_dead_in a (a + 1) v) v.bodies b there
    (and_from _ _ (between a (a + 1) b.place (omega (arith, at)) (omega (arith, at))) (ap (holds v.dead) at ∙ gone))

-- a part of what is between two addresses has no more dead
pub part_dead : (from mid until end : ℕ) (v : SeatView) → from ≤ mid → until ≤ end → dead_between mid until v ≤ dead_between from end v
part_dead from mid until end v early late =
    count_fewer (is_dead_in from end v) (is_dead_in mid until v) v.bodies
    (λ b is. let both = and_parts (is_between mid until b.place) (holds v.dead b.place) is in
    and_from _ _ (between from end b.place (omega (arith, is_first mid until b.place both.0)) (omega (arith, is_last mid until b.place both.0))) both.1)

-- ---- headers were looked at besides

pub sweeps_looked : (from until : ℕ) (v w x : SeatView) (before after : List ℕ) → OnlyLooked w x → Sweeps from until v before w after
    → Sweeps from until v before x after
sweeps_looked from until v w x before after same swept = record {
  view = same ∙ swept.view;
  told = swept.told;
  few = λ end far. omega (arith, swept.few end far, ap (dead_between until end) same);
}

-- ---- one part after another

and_true : (t : Bool) → (t && true) ≡ t
and_true true = refl
and_true false = refl

first_alone : (x y z : Bool) → y ≡ false → x ≡ z → (not x && not y) ≡ not z
first_alone x y z none same = ap (λ t. not x && not t) none ∙ and_true (not x) ∙ ap not same

second_alone : (x y z : Bool) → x ≡ false → y ≡ z → (not x && not y) ≡ not z
second_alone x y z none same = ap (λ t. not t && not y) none ∙ ap not same

-- a body stays in both parts where it stays in the two together
stays_both : (from mid until : ℕ) (v : SeatView) (b : Body) → from ≤ mid → mid ≤ until
    → (not (is_dead_in from mid v b) && not (is_dead_in mid until (swept_in from mid v) b)) ≡ not (is_dead_in from until v b)
stays_both from mid until v b early late = elim (cases_lt b.place mid) [
  | inl first ↦
      first_alone (is_dead_in from mid v b) (is_dead_in mid until (swept_in from mid v) b) (is_dead_in from until v b)
      (and_left _ _ (before mid until b.place first))
      (ap (λ t. t && holds v.dead b.place) (elim (cases_lt b.place from) [
        | inl low ↦ before from mid b.place low ∙ sym (before from until b.place low)
        | inr high ↦ between from mid b.place high first ∙ sym (between from until b.place high (omega arith))
      ]))
  | inr second ↦
      second_alone (is_dead_in from mid v b) (is_dead_in mid until (swept_in from mid v) b) (is_dead_in from until v b)
      (and_left _ _ (behind from mid b.place second))
      (ap (λ t. is_between mid until b.place && t) (outside_behind from mid v.dead b.place second)
      ∙ ap (λ t. t && holds v.dead b.place) (elim (cases_lt b.place until) [
        | inl inside ↦ between mid until b.place second inside ∙ sym (between from until b.place (omega arith) inside)
        | inr over ↦ behind mid until b.place over ∙ sym (behind from until b.place over)
      ]))
]

swept_on : (from mid until : ℕ) (v : SeatView) → from ≤ mid → mid ≤ until → swept_in mid until (swept_in from mid v) ≡ swept_in from until v
swept_on from mid until v early late =
    changed_same v _ (filter (λ b. not (is_dead_in from until v b)) v.bodies) _ (outside from until v.marked) _ (outside from until v.traced) _
    (outside from until v.dead)
    (filter_filter (λ b. not (is_dead_in mid until (swept_in from mid v) b)) (λ b. not (is_dead_in from mid v b)) v.bodies
    ∙ filter_agree _ (λ b. not (is_dead_in from until v b)) (λ b. stays_both from mid until v b early late) v.bodies)
    (outside_on from mid until v.marked early late) (outside_on from mid until v.traced early late) (outside_on from mid until v.dead early late)

pub sweeps_on : (from mid until : ℕ) (v now new : SeatView) (first then last : List ℕ) → from ≤ mid → mid ≤ until → Sweeps from mid v first now then
    → Sweeps mid until now then new last → Sweeps from until v first new last
sweeps_on from mid until v now new first then last early late one two = record {
  view = two.view ∙ ap (swept_in mid until) one.view ∙ ap unlooked (swept_on from mid until v early late);
  told = record {
    numbers = one.told.numbers ++ two.told.numbers;
    are =
        serials_on from mid until v one.told.numbers two.told.numbers early late one.told.are
        (serials_looked mid until (swept_in from mid v) now two.told.numbers one.view two.told.are);
    follow =
        two.told.follow ∙ ap (λ l. l ++ two.told.numbers) one.told.follow ∙ append_assoc first one.told.numbers two.told.numbers;
  };
  few = λ end far. omega (arith, one.few end (omega arith), two.few end far);
}

-- ---- what lasts

pub judged_on : (from mid : ℕ) (v now : SeatView) → from ≤ mid → OnlyLooked (swept_in from mid v) now → IsJudgedFrom from v → IsJudgedFrom mid now
judged_on from mid v now early swept judged =
    subst (IsJudgedFrom mid) (sym swept)
    (λ b there high.
    outside_behind from mid v.dead b.place high
    ∙ judged b (was_in (λ c. not (is_dead_in from mid v c)) v.bodies b there) (omega arith)
    ∙ ap not (sym (outside_behind from mid v.marked b.place high)))

-- a body that is left and isn't dead was not dead before
was_alive : (from mid : ℕ) (v : SeatView) (b : Body) → Contains (swept_in from mid v).bodies b → holds (outside from mid v.dead) b.place ≡ false
    → holds v.dead b.place ≡ false
was_alive from mid v b there alive =
    let stays : is_dead_in from mid v b ≡ false =
    not-true (is_dead_in from mid v b) (has_passed (λ (c : Body). not (is_dead_in from mid v c)) v.bodies b there) in
    false_from_ne_true (holds v.dead b.place) (λ dead. elim (cases_Bool (is_between from mid b.place)) [
      | inl here ↦ true≢false (sym (and_from _ _ here dead) ∙ stays)
      | inr other ↦ true≢false (sym (outside_holds from mid v.dead b.place ∙ and_from _ _ (ap not other) dead) ∙ alive)
    ])

pub unnamed_on : (from mid : ℕ) (v now : SeatView) → OnlyLooked (swept_in from mid v) now → DeadAreUnnamed v → DeadAreUnnamed now
unnamed_on from mid v now swept unnamed =
    subst DeadAreUnnamed (sym swept)
    (λ a dead b i there alive.
    unnamed a (and_parts (not (is_between from mid a)) (holds v.dead a) (sym (outside_holds from mid v.dead a) ∙ dead)).1 b i
    (was_in (λ c. not (is_dead_in from mid v c)) v.bodies b there) (was_alive from mid v b there alive))

cleared : (from mid : ℕ) (places : List ℕ) → ((a : ℕ) → a < from → holds places a ≡ false) → (a : ℕ) → a < mid → holds (outside from mid places) a ≡ false
cleared from mid places none a low = elim (cases_lt a from) [
  | inl early ↦ outside_before from mid places a early ∙ none a early
  | inr late ↦ outside_between from mid places a late low
]

pub clear_on : (from mid : ℕ) (v now : SeatView) → OnlyLooked (swept_in from mid v) now → IsClearBelow from v → IsClearBelow mid now
clear_on from mid v now swept clear = record {
  marked = λ a low. ap (λ (w : SeatView). holds w.marked a) swept ∙ cleared from mid v.marked clear.marked a low;
  traced = λ a low. ap (λ (w : SeatView). holds w.traced a) swept ∙ cleared from mid v.traced clear.traced a low;
  dead = λ a low. ap (λ (w : SeatView). holds w.dead a) swept ∙ cleared from mid v.dead clear.dead a low;
}

pub serials_stay : (from mid : ℕ) (v now : SeatView) (P : Body → Type 0) → OnlyLooked (swept_in from mid v) now → All P v.bodies → All P now.bodies
serials_stay from mid v now P swept all =
    subst (λ (w : SeatView). All P w.bodies) (sym swept) (All-filter (λ b. not (is_dead_in from mid v b)) P v.bodies all)

pub start_stays : (from mid low high : ℕ) (v now : SeatView) → OnlyLooked (swept_in from mid v) now → HasNoStart v.bodies low high → HasNoStart now.bodies low high
start_stays from mid low high v now swept none =
    subst (λ (w : SeatView). HasNoStart w.bodies low high) (sym swept)
    (λ a first last start.
    none a first last (start.0, was_in (λ c. not (is_dead_in from mid v c)) v.bodies start.0 start.1, start.2))

-- no other object starts within the words of a body
pub alone : (v : SeatView) (b : Body) (a size : ℕ) → IsView v → Contains v.bodies b → b.place ≡ a → size ≡ b.size → HasNoStart v.bodies (a + 1) (a + size)
alone v b a size view there at is x first last start =
    let same : b ≡ start.0 = view.apart b start.0 x there start.1 (omega arith) (omega arith) (omega (arith, start.2))
    (omega (arith, start.2, two_words v view start.0 start.1)) in
    omega (arith, ap (λ (c : Body). c.place) same, start.2)
