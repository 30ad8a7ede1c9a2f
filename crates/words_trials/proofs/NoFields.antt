-- A heap in whose types no field stands, and in which nothing is marked.
use Rattle.std.proofs.Common.{◌≡◌, ℕ, zero, suc, true, not, List, [], ◌∷◌, get_or, refl, sym, ap, ◌∙◌, subst}
use Rattle.std.proofs.lemmas.Bool.{true≢false}
use Rattle.gc_graph.specs.declared.kind.Kind.TheVariants.{Plain}
use Rattle.gc_graph.specs.State.{ObjectType, no_type}
use Rattle.gc_graph.specs.Fields.{is_plain}
use Rattle.type_table.specs.Layouts.{kinds_of_words}
use Rattle.marker_core.specs.declared.states.Body.{Body}
use Rattle.marker_core.specs.SeatFacts.{IsAtRest}
use Rattle.marker_core.specs.declared.states.Role.TheVariants.{KeyWord, PlainWord}
use Rattle.marker_core.specs.Bodies.{role_at, role_in, holds}
use Rattle.page_words.specs.Bodies.{is_reference_word}
use Rattle.page_words.specs.Roles.{kind_lists}
use Rattle.page_words.specs.Seat.{SeatView, side, IsUnnamed, PairsAreWhole, IsMarkedOut, begun}

-- two types without fields
abbrev pub two_types : List ObjectType
two_types = no_type ∷ no_type ∷ []

no_fields : (ty : ℕ) → get_or two_types ty no_type ≡ no_type
no_fields zero = refl
no_fields (suc zero) = refl
no_fields (suc (suc ty)) = refl

no_kinds : (ty : ℕ) → get_or (kind_lists two_types) ty [] ≡ []
no_kinds zero = refl
no_kinds (suc zero) = refl
no_kinds (suc (suc ty)) = refl

-- each word is plain
pub nothing_named : (types : List ObjectType) (bodies : List Body) (dead : List ℕ) (a : ℕ) → types ≡ two_types → IsUnnamed types bodies dead a
nothing_named types bodies dead a are b i there alive low reference named =
    true≢false
    (sym reference ∙ ap (λ (ts : List ObjectType). is_reference_word ts b i) are
    ∙ ap (λ (type : ObjectType). not (is_plain (get_or (kinds_of_words type.kinds) i Plain))) (no_fields b.ty))

not_a_key : PlainWord ≡ KeyWord → ⊥
not_a_key e = cc

-- and none is a pair's
pub no_pairs : (v : SeatView) → v.types ≡ two_types → PairsAreWhole v
no_pairs v are b i there role =
    absurd (not_a_key (sym (ap (λ ks. role_at ks i) (no_kinds b.ty)) ∙ subst (λ ts. role_in (kind_lists ts) b i ≡ KeyWord) are role))

nothing_marked : (v : SeatView) → v.marked ≡ [] → (a : ℕ) → holds v.marked a ≡ true → ⊥
nothing_marked v none a held = true≢false (sym held ∙ ap (λ marked. holds marked a) none)

-- marking that has just begun may end where nothing is marked
pub marked_out : (v : SeatView) → IsAtRest (side v) → v.marked ≡ [] → IsMarkedOut (begun v [])
marked_out v rest none = record {
  alone = record { no_hand = rest.no_hand; no_pending = rest.no_pending; none_lent = rest.none_lent };
  traced = λ a held. absurd (nothing_marked v none a held);
  closed = record {
    strong = λ b i there held role some. absurd (nothing_marked v none b.place held);
    pairs = λ b i there held role key key_held value. absurd (nothing_marked v none b.place held);
  };
}
