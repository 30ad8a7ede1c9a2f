-- What a store makes of the view.
use Rattle.std.proofs.Common.{◌≡◌, ℕ, ◌+◌, ◌-◌, ◌≤◌, ◌<◌, Bool, true, false, not, cond, ◌&&◌, List, map, Option, None, Some, eqb, leb, ltb, refl, sym, ap, ◌∙◌, inl, inr, arith, Contains}
use mathlib.Core.Logic.{◌⊎◌}
use Rattle.std.specs.List.{list_any}
use Rattle.std.proofs.lemmas.Bool.{and_parts, eq-eqb, leb-true, ltb-true, false_from_ne_true, true≢false}
use Rattle.gc_graph.specs.Members.{any_member}
use Rattle.gc_graph.specs.declared.kind.Kind.{Kind}
use Rattle.gc_graph.specs.declared.kind.Kind.TheVariants.{Strong, Pair}
use Rattle.type_table.specs.FieldLaw.{FieldsStandApart}
use Rattle.marker_core.specs.declared.states.Body.{Body}
use Rattle.marker_core.specs.Bodies.{fields_at, end_of, has_field, role_in, keeps, with_word}
use Rattle.marker_core.specs.SeatSteps.{keeps_in, settled}
use Rattle.page_words.specs.Roles.{kind_lists}
use Rattle.page_words.specs.Seat.{SeatView, IsView, stored, rewritten, marked_at, with_bodies}
use Rattle.member_fields.specs.Words.{HasFieldWord, HasWordOfSomeKind, HasPair, written}
use Rattle.member_fields.specs.Barrier.{target_marked}
use Rattle.member_fields.proofs.Roles.{kind_told, keeps_none, key_role}
use Rattle.member_fields.proofs.Writes.{rewritten_word}

-- nothing waits where the word is null or keeps nothing
none_waits : (on null kept : Bool) (p q : Option ℕ) → (null ≡ true) ⊎ (kept ≡ false) → cond (on && not null && kept) p q ≡ q
none_waits false null kept p q why = refl
none_waits true true kept p q why = refl
none_waits true false kept p q why = elim why [ inl is ↦ absurd (true≢false (sym is)) | inr none ↦ ap (λ b. cond b p q) none ]

pub stored_alone : (v : SeatView) (a w : ℕ) → (eqb w 0 ≡ true) ⊎ (list_any (keeps_in (kind_lists v.types) a) v.bodies ≡ false)
    → stored v a w ≡ rewritten v a w
stored_alone v a w why =
    ap (λ (p : Option ℕ). record v { mutator = record v.mutator { bodies = map (with_word a w) v.bodies; pending = p } })
    (none_waits v.on (eqb w 0) (list_any (keeps_in (kind_lists v.types) a) v.bodies) (Some (w - 1)) v.pending why)

-- ---- words that keep nothing

unkept : (v : SeatView) (b : Body) (a : ℕ) → IsView v → Contains v.bodies b → fields_at b ≤ a → a < end_of b
    → keeps (role_in (kind_lists v.types) b (a - fields_at b)) ≡ false → list_any (keeps_in (kind_lists v.types) a) v.bodies ≡ false
unkept v b a is there low high none =
    false_from_ne_true _ (λ some.
    let found = any_member (keeps_in (kind_lists v.types) a) v.bodies some in
    let c : Body = found.0 in
    let parts = and_parts (has_field a c) (keeps (role_in (kind_lists v.types) c (a - fields_at c))) found.2 in
    let ends = and_parts (leb (c.place + 2) a) (ltb a (end_of c)) parts.0 in
    let from : c.place + 2 ≤ a = leb-true (c.place + 2) a ends.0 in
    let same : c ≡ b = is.apart c b a found.1 there (omega (arith, from)) (ltb-true a (end_of c) ends.1) (omega (arith, low)) high in
    true≢false (sym parts.1 ∙ ap (λ (d : Body). keeps (role_in (kind_lists v.types) d (a - fields_at d))) same ∙ none))

pub lone_written : (v : SeatView) (is_so : Kind → Bool) (holder word w : ℕ) → IsView v → (is_so Strong ≡ true → ⊥) → (is_so Pair ≡ true → ⊥)
    → HasFieldWord is_so v holder word → stored v (holder + word) w ≡ written v holder word w
lone_written v is_so holder word w is strong pair has =
    let b : Body = has.body in
    let at : holder + word - fields_at b ≡ word - 2 = omega (arith, has.place, has.first) in
    let i : ℕ = holder + word - fields_at b in
    let kind = ap (λ n. role_in (kind_lists v.types) b n) at in
    let none : keeps (role_in (kind_lists v.types) b i) ≡ false =
    ap keeps kind
    ∙ keeps_none (role_in (kind_lists v.types) b (word - 2)) (λ e. strong (ap is_so (sym (kind_told v b (word - 2) ∙ e)) ∙ has.kind))
    (λ e. pair (ap is_so (sym (kind_told v b (word - 2) ∙ e)) ∙ has.kind)) in
    stored_alone v (holder + word) w
    (inr (unkept v b (holder + word) is has.there (omega (arith, has.place, has.first)) (omega (arith, has.place, has.last)) none))
    ∙ rewritten_word v holder word w is (is_so, has)

pub null_written : (v : SeatView) (holder word : ℕ) → IsView v → HasWordOfSomeKind v holder word → stored v (holder + word) 0 ≡ written v holder word 0
null_written v holder word is has = stored_alone v (holder + word) 0 (inl refl) ∙ rewritten_word v holder word 0 is has

pub key_written : FieldsStandApart → (v : SeatView) (holder word w : ℕ) → IsView v → HasPair v holder word → HasWordOfSomeKind v holder word
    → stored v (holder + word) w ≡ written v holder word w
key_written law v holder word w is pair has =
    let b : Body = pair.body in
    let at : holder + word - fields_at b ≡ word - 2 = omega (arith, pair.place, pair.first) in
    let none : keeps (role_in (kind_lists v.types) b (holder + word - fields_at b)) ≡ false =
    ap (λ n. keeps (role_in (kind_lists v.types) b n)) at ∙ ap keeps (key_role law v b (word - 2) pair.key) in
    stored_alone v (holder + word) w
    (inr (unkept v b (holder + word) is pair.there (omega (arith, pair.place, pair.first)) (omega (arith, pair.place, pair.last)) none))
    ∙ rewritten_word v holder word w is has

-- ---- words that keep what they name

-- what waits for a mark waits no more once the mark is there
mark_ends_wait : (kept : Bool) (p : Option ℕ) (a : ℕ) → p ≡ None → settled (cond kept (Some a) p) a ≡ settled p a
mark_ends_wait false p a none = refl
mark_ends_wait true p a none = ap (λ b. cond b None (Some a)) (eq-eqb a a refl) ∙ sym (ap (λ q. settled q a) none)

abbrev with_pending : Option ℕ → SeatView → SeatView
with_pending p v = record v { mutator = record v.mutator { pending = p } }

marked_over : (v : SeatView) (bodies : List Body) (a : ℕ) (was wanted kept : Bool) → v.pending ≡ None
    → (
    let w : SeatView = record v { mutator = record v.mutator { bodies = bodies; pending = cond (wanted && kept) (Some a) v.pending } } in
    cond wanted (marked_at w a was) w ≡ cond wanted (marked_at (with_bodies v bodies) a was) (with_bodies v bodies)
    )
marked_over v bodies a was false kept none = refl
marked_over v bodies a was true kept none =
    ap (λ (p : Option ℕ). with_pending p (marked_at (with_bodies v bodies) a was)) (mark_ends_wait kept v.pending a none)

-- the barrier of a store is one over the view in which the word alone was written
pub barrier_over : (v : SeatView) (holder word w : ℕ) (s : SeatView) → IsView v → HasWordOfSomeKind v holder word → v.pending ≡ None
    → (was : Bool) → s ≡ target_marked (stored v (holder + word) w) w was → s ≡ target_marked (written v holder word w) w was
barrier_over v holder word w s is has none was e =
    let a : ℕ = holder + word in
    e
    ∙ marked_over v (map (with_word a w) v.bodies) (w - 1) was (v.on && not (eqb w 0)) (list_any (keeps_in (kind_lists v.types) a) v.bodies) none
    ∙ ap (λ (u : SeatView). target_marked u w was) (rewritten_word v holder word w is has)
