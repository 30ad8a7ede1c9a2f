-- A write at the address of a word is a write of that word alone.
use Rattle.std.proofs.Common.{◌≡◌, ℕ, ◌+◌, ◌-◌, ◌≤◌, ◌<◌, Bool, true, ◌&&◌, List, [], ◌∷◌, map, set, get_or, suc, refl, sym, ap, ◌∙◌, arith, leb, ltb, eqb, Contains}
use Rattle.std.proofs.lemmas.Bool.{and_parts, and_from, both_ways, leb-true, ltb-true, le-leb, lt-ltb, eqb-true, eq-eqb, cond_both}
use Rattle.std.proofs.lemmas.List.{get_or-set_same, get_or-set_other, get_or-map, length-map}
use Rattle.std.proofs.lemmas.List.Elements.{All-contains, All-map, Contains-get_or}
use Rattle.gc_graph.specs.declared.kind.Kind.{Kind}
use Rattle.marker_core.specs.Bodies.{end_of, with_word}
use Rattle.marker_core.specs.declared.states.Body.{Body}
use Rattle.page_words.specs.Bodies.{kind_in}
use Rattle.page_words.specs.Seat.{SeatView, IsView, rewritten, with_bodies}
use Rattle.member_fields.specs.Words.{HasFieldWord, HasWordOfSomeKind, IsWordIn, with_word_in, written}
use Rattle.page_words.specs.BodyPlaces.{whole_body, same_body}

each_same : {X Y : Type 0} (f g : X → Y) (xs : List X) → ((x : X) → Contains xs x → f x ≡ g x) → map f xs ≡ map g xs
each_same f g [] same = refl
each_same f g (x ∷ xs) same =
    ap (λ y. y ∷ map f xs) (same x (0, omega arith, refl)) ∙ ap (λ ys. g x ∷ ys) (each_same f g xs (λ y there. same y (suc there.0, omega (arith, there.1), there.2)))

-- the word at the address is one of the body's fields
abbrev has_address : ℕ → Body → Bool
has_address a b = leb (b.place + 2) a && ltb a (end_of b)

body_with_word : (v : SeatView) (holder word w : ℕ) → IsView v → HasWordOfSomeKind v holder word → (b : Body) → Contains v.bodies b
    → with_word (holder + word) w b ≡ with_word_in holder word w b
body_with_word v holder word w is has b there =
    let a : ℕ = holder + word in
    let by_place : Body = with_word_in holder word w b in
    cond_both (has_address a b) (set b.fields (a - (b.place + 2)) w) b.fields (λ fields. record b { fields = fields } ≡ by_place)
    (λ on.
    let parts = and_parts (leb (b.place + 2) a) (ltb a (end_of b)) on in
    let low : b.place + 2 ≤ a = leb-true (b.place + 2) a parts.0 in
    let high : a < b.place + b.size = ltb-true a (end_of b) parts.1 in
    let same : b ≡ has.1.body = is.apart b has.1.body a there has.1.there (omega arith) high (omega (arith, has.1.place)) (omega (arith, has.1.place, has.1.last)) in
    let place : b.place ≡ holder = ap (λ (c : Body). c.place) same ∙ has.1.place in
    cond_both (eqb b.place holder) (record b { fields = set b.fields (word - 2) w }) b (λ c. record b { fields = set b.fields (a - (b.place + 2)) w } ≡ c)
    (λ _. ap (λ i. record b { fields = set b.fields i w }) (omega arith))
    (λ off. absurd (both_ways (eqb b.place holder) off (eq-eqb b.place holder place))))
    (λ off.
    cond_both (eqb b.place holder) (record b { fields = set b.fields (word - 2) w }) b (λ c. b ≡ c)
    (λ on.
    let place : b.place ≡ holder = eqb-true b.place holder on in
    let same : b ≡ has.1.body = same_body v b has.1.body is there has.1.there (place ∙ sym has.1.place) in
    let size : b.size ≡ has.1.body.size = ap (λ (c : Body). c.size) same in
    absurd (both_ways (has_address a b) off
    (and_from (leb (b.place + 2) a) (ltb a (end_of b)) (le-leb (b.place + 2) a (omega (arith, has.1.first))) (lt-ltb a (end_of b) (omega (arith, has.1.last))))))
    (λ _. refl))

pub rewritten_word : (v : SeatView) (holder word w : ℕ) → IsView v → HasWordOfSomeKind v holder word → rewritten v (holder + word) w ≡ written v holder word w
rewritten_word v holder word w is has =
    ap (λ (bodies : List Body). with_bodies v bodies)
    (each_same (with_word (holder + word) w) (with_word_in holder word w) v.bodies (body_with_word v holder word w is has))

-- ---- what the words are after a write

-- what is true of each body after a write
each_after : (P : Body → Type 0) (v : SeatView) (holder word w : ℕ) → ((b : Body) → Contains v.bodies b → P (with_word_in holder word w b)) → (c : Body)
    → Contains (written v holder word w).bodies c → P c
each_after P v holder word w each c there =
    All-contains P (map (with_word_in holder word w) v.bodies) c
    (All-map P (with_word_in holder word w) v.bodies (λ k d l. each (get_or v.bodies k d) (Contains-get_or v.bodies k d l))) there

pub by_place : (P : Body → Type 0) (holder word w : ℕ) (b : Body) → (b.place ≡ holder → P (record b { fields = set b.fields (word - 2) w }))
    → ((b.place ≡ holder → ⊥) → P b) → P (with_word_in holder word w b)
by_place P holder word w b on off =
    cond_both (eqb b.place holder) (record b { fields = set b.fields (word - 2) w }) b P
    (λ is. on (eqb-true b.place holder is))
    (λ other. off (λ is. both_ways (eqb b.place holder) other (eq-eqb b.place holder is)))

pub kind_kept : (v : SeatView) (is_so : Kind → Bool) (holder word place offset w : ℕ) → HasFieldWord is_so v holder word
    → HasFieldWord is_so (written v place offset w) holder word
kind_kept v is_so holder word place offset w has =
    let b : Body = has.body in
    record {
      body = with_word_in place offset w b;
      there = (
        has.there.0,
        omega (arith, has.there.1, length-map v.bodies (with_word_in place offset w)),
        get_or-map (with_word_in place offset w) v.bodies has.there.0 b (with_word_in place offset w b) has.there.1 ∙ ap (with_word_in place offset w) has.there.2,
      );
      place = by_place (λ c. c.place ≡ holder) place offset w b (λ _. has.place) (λ _. has.place);
      first = has.first;
      last = by_place (λ c. word < c.size) place offset w b (λ _. has.last) (λ _. has.last);
      kind = by_place (λ c. is_so (kind_in v.types c (word - 2)) ≡ true) place offset w b (λ _. has.kind) (λ _. has.kind);
    }

pub word_written : (v : SeatView) → IsView v → (holder word w : ℕ) → HasWordOfSomeKind v holder word → IsWordIn (written v holder word w) holder word w
word_written v is holder word w has =
    each_after (λ c. c.place ≡ holder → w ≡ get_or c.fields (word - 2) 0) v holder word w
    (λ b there.
    by_place (λ c. c.place ≡ holder → w ≡ get_or c.fields (word - 2) 0) holder word w b
    (λ at _.
    let same : b ≡ has.1.body = same_body v b has.1.body is there has.1.there (at ∙ sym has.1.place) in
    let size : b.size ≡ has.1.body.size = ap (λ (c : Body). c.size) same in
    let whole = whole_body v is b there in
    sym (get_or-set_same b.fields (word - 2) w 0 (omega (arith, size, whole.fields, has.1.first, has.1.last))))
    (λ other at. absurd (other at)))

pub other_word_kept : (v : SeatView) (holder word w place offset x : ℕ) → 2 ≤ word → 2 ≤ offset → (place ≡ holder → offset ≡ word → ⊥)
    → IsWordIn v place offset x → IsWordIn (written v holder word w) place offset x
other_word_kept v holder word w place offset x first first_too other held =
    each_after (λ c. c.place ≡ place → x ≡ get_or c.fields (offset - 2) 0) v holder word w
    (λ b there.
    by_place (λ c. c.place ≡ place → x ≡ get_or c.fields (offset - 2) 0) holder word w b
    (λ at is. held b there is ∙ sym (get_or-set_other b.fields (word - 2) (offset - 2) w 0 (λ e. other (sym is ∙ at) (omega (arith, e)))))
    (λ _ is. held b there is))
