-- What is filled after one more word, and once a body joined the others.
use Rattle.std.proofs.Common.{◌≡◌, ℕ, zero, suc, ◌+◌, ◌-◌, ◌^◌, ◌<◌, ◌≤◌, Bool, true, false, not, List, length, [], ◌∷◌, ◌++◌, refl, sym, ap, ◌∙◌, subst, inl, inr, arith, eqb, get_or, replicate, ◌&&◌, leb, ltb, cond}
use Rattle.std.specs.List.{Contains, filter}
use Rattle.std.proofs.lemmas.Bool.{and_parts, leb-true, ltb-true, ne_eqb, cond-true, cond-false, cases_lt, cases_Bool, false_from_ne_true, both_ways, and_from, le-leb, lt-ltb, not_from_false, not-true}
use Rattle.std.proofs.lemmas.List.{length-map, length-replicate, get_or-replicate}
use Rattle.object_headers.specs.Layout.{header_word}
use Rattle.gap_bounds.specs.SeatLaws.{IsReadyToPublish}
use Rattle.gc_graph.specs.State.{ObjectType}
use Rattle.gap_bounds.specs.Seat.{SeatView, side, filled_with, published}
use Rattle.gap_bounds.specs.Bodies.{end_of, body_has_word, in_body, IsInBody}
use Rattle.gap_bounds.specs.Body.{Body}
use Rattle.page_space.specs.Occupying.{HasNulls, IsNewNumber, IsRoom, Occupies, least_size, new_body, nulled}
use Rattle.gc_graph.specs.Members.{Contains-cons, Contains-head, any_member, stays_in}

-- the word just filled, and a word filled before elsewhere
pub filled_here : (v : SeatView) (a w : ℕ) → Contains (filled_with v a w).filled (a, w)
filled_here v a w = Contains-head (a, w) (filter (λ f. not (eqb f.0 a)) v.filled)

pub filled_before : (v : SeatView) (a w : ℕ) (f : ℕ × ℕ) → (f.0 ≡ a → ⊥) → Contains v.filled f → Contains (filled_with v a w).filled f
filled_before v a w f other h =
    Contains-cons (a, w) (filter (λ g. not (eqb g.0 a)) v.filled) f
    (stays_in (λ g. not (eqb g.0 a)) v.filled f h (ap not (ne_eqb f.0 a other)))

pub nulls_more : (v : SeatView) (first count next : ℕ) → next ≡ first + count → HasNulls v.filled first count
    → HasNulls (filled_with v next 0).filled first (count + 1)
nulls_more v first count next at nulls i below =
    elim (cases_lt i count) [
      | inl earlier ↦ filled_before v next 0 (first + i, 0) (λ e. let same : first + i ≡ next = e in omega arith) (nulls i earlier)
      | inr now ↦
          (let same : next ≡ first + i = omega arith in
          subst (λ x. Contains (filled_with v next 0).filled (x, 0)) same (filled_here v next 0))
    ]

-- a fill changes the filled words alone
pub only_filled : (old v now : SeatView) (a w : ℕ) → v ≡ record old { mutator = record old.mutator { filled = v.filled } } → now ≡ filled_with v a w
    → now ≡ record old { mutator = record old.mutator { filled = now.filled } }
only_filled old v now a w rest fills =
    let others = λ (u : SeatView). let with : SeatView = record u { mutator = record u.mutator { filled = (filled_with v a w).filled } } in with in
    let words = λ (fs : List (ℕ × ℕ)). let with : SeatView = record old { mutator = record old.mutator { filled = fs } } in with in
    fills ∙ ap others rest ∙ ap words (sym (ap (λ u. u.filled) fills))

-- so are several, one after the other
pub nulls_filled : (v : SeatView) (a n : ℕ) → HasNulls (nulled v a n).filled a n
unfolding nulled
nulls_filled v a zero = λ i below. absurd (omega arith)
nulls_filled v a (suc n) =
    let next : n + 1 ≡ suc n = omega arith in
    subst (HasNulls (nulled v a (suc n)).filled a) next (nulls_more (nulled v a n) a n (a + n) refl (nulls_filled v a n))

pub only_nulled : (v : SeatView) (a n : ℕ) → nulled v a n ≡ record v { mutator = record v.mutator { filled = (nulled v a n).filled } }
unfolding nulled
only_nulled v a zero = refl
only_nulled v a (suc n) = only_filled v (nulled v a n) (nulled v a (suc n)) (a + n) 0 (only_nulled v a n) refl

-- one more word after those that were filled
pub nulled_next : (old now : SeatView) (first place : ℕ) → first ≤ place → now ≡ nulled old first (place - first)
    → filled_with now place 0 ≡ nulled old first (place + 1 - first)
unfolding nulled
nulled_next old now first place order so_far =
    let n : ℕ = place - first in
    let at : first + n ≡ place = omega arith in
    let more : place + 1 - first ≡ suc n = omega arith in
    ap (λ (v : SeatView). filled_with v place 0) so_far ∙ ap (λ p. filled_with (nulled old first n) p 0) (sym at) ∙ ap (nulled old first) (sym more)

-- more words after those that were filled
pub nulled_more : (old now : SeatView) (first place n : ℕ) → first ≤ place → now ≡ nulled old first (place - first)
    → nulled now place n ≡ nulled old first (place + n - first)
unfolding nulled
nulled_more old now first place zero order so_far = so_far ∙ (let same : place - first ≡ place + 0 - first = omega arith in ap (nulled old first) same)
nulled_more old now first place (suc n) order so_far =
    let at : place + n ≡ first + (place + n - first) = omega arith in
    let more : place + suc n - first ≡ suc (place + n - first) = omega arith in
    ap (λ (v : SeatView). filled_with v (place + n) 0) (nulled_more old now first place n order so_far)
    ∙ ap (λ p. filled_with (nulled old first (place + n - first)) p 0) at ∙ ap (nulled old first) (sym more)

pub nulled_start : (v : SeatView) (first : ℕ) → v ≡ nulled v first 0
unfolding nulled
nulled_start v first = refl

pub nulled_suc : (old now : SeatView) (first n : ℕ) → now ≡ nulled old first n → filled_with now (first + n) 0 ≡ nulled old first (n + 1)
unfolding nulled
nulled_suc old now first n so_far =
    let more : n + 1 ≡ suc n = omega arith in
    ap (λ (v : SeatView). filled_with v (first + n) 0) so_far ∙ ap (nulled old first) (sym more)

pub nulled_none : (v : SeatView) (first : ℕ) → v ≡ nulled v first (first - first)
unfolding nulled
nulled_none v first = (let none : first - first ≡ 0 = omega arith in ap (nulled v first) (sym none))

-- ---- what stays filled

-- a word that is filled elsewhere than in the body
abbrev is_outside : Body → ℕ × ℕ → Bool
is_outside b f = not (leb b.place f.0 && ltb f.0 (end_of b))

filter_within : (p q : ℕ × ℕ → Bool) → ((f : ℕ × ℕ) → p f ≡ true → q f ≡ true) → (fs : List (ℕ × ℕ)) → filter p (filter q fs) ≡ filter p fs
filter_within p q within [] = refl
filter_within p q within (f ∷ fs) = elim (cases_Bool (q f)) [
  | inl kept ↦
      ap (filter p) (cond-true (q f) (f ∷ filter q fs) (filter q fs) kept)
      ∙ ap (λ l. cond (p f) (f ∷ l) l) (filter_within p q within fs)
  | inr dropped ↦
      ap (filter p) (cond-false (q f) (f ∷ filter q fs) (filter q fs) dropped)
      ∙ filter_within p q within fs
      ∙ sym (cond-false (p f) (f ∷ filter p fs) (filter p fs) (false_from_ne_true (p f) (λ passes. both_ways (q f) dropped (within f passes))))
]

-- a word filled in the body is none of those that stay filled
fill_inside : (v : SeatView) (b : Body) (a w : ℕ) → b.place ≤ a → a < end_of b → (published (filled_with v a w) b).filled ≡ (published v b).filled
fill_inside v b a w low high =
    let others : List (ℕ × ℕ) = filter (λ f. not (eqb f.0 a)) v.filled in
    let word : ℕ × ℕ = (a, w) in
    cond-false (is_outside b word) (word ∷ filter (is_outside b) others) (filter (is_outside b) others)
    (ap not (and_from (leb b.place a) (ltb a (end_of b)) (le-leb b.place a low) (lt-ltb a (end_of b) high)))
    ∙ filter_within (is_outside b) (λ f. not (eqb f.0 a))
    (λ f out. not_from_false (eqb f.0 a) (ne_eqb f.0 a
    (λ same. both_ways (leb b.place f.0 && ltb f.0 (end_of b)) (not-true _ out)
    (and_from _ _ (le-leb b.place f.0 (omega arith)) (lt-ltb f.0 (end_of b) (omega arith)))))) v.filled

pub nulls_inside : (v : SeatView) (b : Body) (a n : ℕ) → b.place ≤ a → a + n ≤ end_of b → (published (nulled v a n) b).filled ≡ (published v b).filled
unfolding nulled
nulls_inside v b a zero low high = refl
nulls_inside v b a (suc n) low high = fill_inside (nulled v a n) b (a + n) 0 (omega arith) (omega arith) ∙ nulls_inside v b a n low (omega arith)

-- a body joins the others once its header and its serial number were filled
pub head_occupies : (old new : SeatView) (b : Body) (a header serial : ℕ) → b.place ≡ a → 2 ≤ b.size
    → new ≡ published (filled_with (filled_with old a header) (a + 1) serial) b → Occupies old new b
head_occupies old new b a header serial at least is = record {
  heap = ap (λ (v : SeatView). v.heap) is;
  types = ap (λ (v : SeatView). v.types) is;
  on = ap (λ (v : SeatView). v.on) is;
  bodies = ap (λ (v : SeatView). v.bodies) is;
  filled = ap (λ (v : SeatView). v.filled) is
      ∙ fill_inside (filled_with old a header) b (a + 1) serial (omega arith) (omega arith) ∙ fill_inside old b a header (omega arith) (omega arith);
  marked = ap (λ (v : SeatView). v.marked) is;
  traced = ap (λ (v : SeatView). v.traced) is;
  dead = ap (λ (v : SeatView). v.dead) is;
  may = ap (λ (v : SeatView). v.may) is;
  noted = ap (λ (v : SeatView). v.noted) is;
  hand = ap (λ (v : SeatView). v.hand) is;
  pending = ap (λ (v : SeatView). v.pending) is;
  lent = ap (λ (v : SeatView). v.lent) is;
  done = ap (λ (v : SeatView). v.done) is;
  missed = ap (λ (v : SeatView). v.missed) is;
}

-- what is filled in a body before it joins the others is nothing to it
pub occupies_before : (old mid new : SeatView) (fs : List (ℕ × ℕ)) (b : Body) → mid ≡ record old { mutator = record old.mutator { filled = fs } }
    → filter (is_outside b) fs ≡ filter (is_outside b) old.filled → Occupies mid new b → Occupies old new b
occupies_before old mid new fs b rest inside joins = record {
  heap = joins.heap ∙ ap (λ (v : SeatView). v.heap) rest;
  types = joins.types ∙ ap (λ (v : SeatView). v.types) rest;
  on = joins.on ∙ ap (λ (v : SeatView). v.on) rest;
  bodies = joins.bodies ∙ ap (λ (v : SeatView). v.bodies ++ b ∷ []) rest;
  filled = joins.filled ∙ ap (λ (v : SeatView). (published v b).filled) rest ∙ inside;
  marked = joins.marked ∙ ap (λ (v : SeatView). v.marked) rest;
  traced = joins.traced ∙ ap (λ (v : SeatView). v.traced) rest;
  dead = joins.dead ∙ ap (λ (v : SeatView). v.dead) rest;
  may = joins.may ∙ ap (λ (v : SeatView). (published v b).may) rest;
  noted = joins.noted ∙ ap (λ (v : SeatView). v.noted) rest;
  hand = joins.hand ∙ ap (λ (v : SeatView). v.hand) rest;
  pending = joins.pending ∙ ap (λ (v : SeatView). v.pending) rest;
  lent = joins.lent ∙ ap (λ (v : SeatView). v.lent) rest;
  done = joins.done ∙ ap (λ (v : SeatView). v.done) rest;
  missed = joins.missed ∙ ap (λ (v : SeatView). v.missed) rest;
}

-- ---- ready

-- a word that is said to be in a body is one of a body's
body_with : (bodies : List Body) (x : ℕ) → in_body bodies x ≡ true → IsInBody bodies x
body_with bodies x held =
    let found = any_member (body_has_word x) bodies held in
    let b = found.0 in
    let both = and_parts (leb b.place x) (ltb x (end_of b)) found.2 in
    (b, found.1, leb-true b.place x both.0, ltb-true x (end_of b) both.1)

pub ready_to_publish : (old : SeatView) (a ty size serial : ℕ) → IsRoom old size a
    → ty < length old.types → least_size old ty ≤ size → size < 2 ^ 26 → IsNewNumber old serial → serial < 2 ^ 32
    → HasNulls old.filled (a + 2) (size - 2)
    → IsReadyToPublish (side (filled_with (filled_with old a (header_word true false false ty size)) (a + 1) serial)) (new_body a ty size serial)
ready_to_publish old a ty size serial room known least most unused number nulls =
    let inside : a + size ≤ old.count = room.inside in
    record {
      header = filled_before (filled_with old a (header_word true false false ty size)) (a + 1) serial
          (a, header_word true false false ty size) (λ e. let same : a ≡ a + 1 = e in omega arith)
          (filled_here old a (header_word true false false ty size));
      serial = filled_here (filled_with old a (header_word true false false ty size)) (a + 1) serial;
      fields = λ i below.
          let low : i < size - 2 = omega (arith, length-replicate {A = ℕ} (size - 2) 0) in
          let word : ℕ × ℕ = (a + 2 + i, get_or (replicate (size - 2) 0) i 0) in
          let null : Contains old.filled word = subst (λ w. Contains old.filled (a + 2 + i, w)) (sym (get_or-replicate (size - 2) i 0 0 low)) (nulls i low) in
          filled_before (filled_with old a (header_word true false false ty size)) (a + 1) serial word (λ e. let same : a + 2 + i ≡ a + 1 = e in omega arith)
          (filled_before old a (header_word true false false ty size) word (λ e. let same : a + 2 + i ≡ a = e in omega arith) null);
      null = λ i below _. get_or-replicate (size - 2) i 0 0 (omega (arith, length-replicate {A = ℕ} (size - 2) 0));
      whole = record {
        ty = omega (arith, known, length-map old.types (λ (type : ObjectType). type.kinds));
        room = least;
        size = most;
        inside = omega arith;
        fields = omega (arith, length-replicate {A = ℕ} (size - 2) 0);
      };
      apart = λ x low high. false_from_ne_true (in_body old.bodies x) (λ held. room.free x low high (body_with old.bodies x held));
      number = number;
      unused = unused;
    }

-- where header and serial number are written in one after the other
pub head_filled : (old then now : SeatView) (a header serial h s : ℕ) → h ≡ header → s ≡ serial → then ≡ filled_with old a h
    → now ≡ filled_with then (a + 1) s → now ≡ filled_with (filled_with old a header) (a + 1) serial
head_filled old then now a header serial h s header_is serial_is first second =
    second ∙ ap (filled_with then (a + 1)) serial_is ∙ ap (λ v. filled_with v (a + 1) serial) (first ∙ ap (filled_with old a) header_is)
