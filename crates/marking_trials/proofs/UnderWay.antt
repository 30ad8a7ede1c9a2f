-- Writes while marking goes on.
use Rattle.std.proofs.Common.{◌≡◌, ℕ, ◌-◌, Bool, true, false, cond, List, [], ◌∷◌, eqb, set, refl, sym, ap, ◌∙◌, subst, inl, inr, arith, Contains}
use Rattle.std.proofs.lemmas.Bool.{cases_Bool, cond_both}
use Rattle.gc_graph.specs.Members.{Contains-map, Contains-map_some}
use Rattle.gc_graph.specs.State.{ObjectType}
use Rattle.gc_graph.specs.declared.kind.Kind.{Kind}
use Rattle.gc_graph.specs.declared.kind.Kind.TheVariants.{Strong, Pair}
use Rattle.mark_worklist.specs.declared.marking.Marking.{Marking}
use Rattle.type_table.specs.Types.{is_kind, declared_kinds, offsets_of_kind}
use Rattle.object_headers.specs.Offsets.{reference_to}
use Rattle.marker_core.specs.declared.states.Body.{Body}
use Rattle.marker_core.specs.Bodies.{IsPlace, IsReference, holds}
use Rattle.page_words.specs.Bodies.{kind_in}
use Rattle.page_words.specs.Seat.{SeatView, marked_at}
use Rattle.page_space.specs.Space.{SpaceView}
use Rattle.member_fields.specs.Words.{HasFieldWord, HasPair, with_word_in, written}
use Rattle.member_fields.specs.Barrier.{IsReadyToStore, MayKeepNamed, HasBarrier, asks_for_mark}
use Rattle.marking_trials.specs.ThreeObjects.{AreThree, IsMarkingThreeObjects, strong_then_pair}

kinds_told : (space : SpaceView) (v : SeatView) (told : Bool) → IsMarkingThreeObjects space v told → (b : Body) → Contains v.bodies b
    → declared_kinds v.types b.ty ≡ Strong ∷ Pair ∷ []
kinds_told space v told is b there = ap (λ (types : List ObjectType). declared_kinds types b.ty) is.types ∙ ap (declared_kinds strong_then_pair) (is.bodies b there).0

pub strong_field : (space : SpaceView) (v : SeatView) (told : Bool) (holder : ℕ) → IsMarkingThreeObjects space v told → IsPlace v.bodies holder
    → HasFieldWord (is_kind Strong) v holder 2
strong_field space v told holder is at =
    let five = is.bodies at.0 at.1 in
    record {
      body = at.0;
      there = at.1;
      place = at.2;
      first = omega arith;
      last = omega (arith, five.1);
      kind = ap (λ (types : List ObjectType). is_kind Strong (kind_in types at.0 0)) is.types
          ∙ ap (λ ty. is_kind Strong (kind_in strong_then_pair (record at.0 { ty = ty }) 0)) five.0;
    }

pub pair_field : (space : SpaceView) (v : SeatView) (told : Bool) (holder : ℕ) → IsMarkingThreeObjects space v told → IsPlace v.bodies holder → HasPair v holder 3
pair_field space v told holder is at =
    let five = is.bodies at.0 at.1 in
    record {
      body = at.0;
      there = at.1;
      place = at.2;
      first = omega arith;
      last = omega (arith, five.1);
      key = subst (λ (kinds : List Kind). Contains (offsets_of_kind Pair kinds) 3) (sym (kinds_told space v told is at.0 at.1)) (0, omega arith, refl);
    }

pub named_kept : (space : SpaceView) (v : SeatView) (told : Bool) (w : ℕ) → IsMarkingThreeObjects space v told → IsReference v.bodies w → MayKeepNamed v w
named_kept space v told w is names on = elim names [
  | inl null ↦ inl null
  | inr at ↦ (let place : at.0.place ≡ w - 1 = omega (arith, at.2) in
      inr (subst (λ p. holds v.may p ≡ true) place (is.bodies at.0 at.1).2))
]

-- ---- what a write leaves

by_place : (P : Body → Type 0) (holder word w : ℕ) (b : Body) → P (record b { fields = set b.fields (word - 2) w }) → P b → P (with_word_in holder word w b)
by_place P holder word w b on off =
    cond_both (eqb b.place holder) (record b { fields = set b.fields (word - 2) w }) b P (λ _. on) (λ _. off)

pub written_goes : (space : SpaceView) (v : SeatView) (told : Bool) (holder word w : ℕ) → IsMarkingThreeObjects space v told → IsMarkingThreeObjects space (written v holder word w) told
written_goes space v told holder word w is = record {
  heap = is.heap;
  on = is.on;
  same = is.same;
  ready = record { no_hand = is.ready.no_hand; no_pending = is.ready.no_pending };
  types = is.types;
  bodies = λ c there.
      let found = Contains-map_some (with_word_in holder word w) v.bodies c there in
      let five = is.bodies found.0 found.1 in
      subst (λ (d : Body). (d.ty ≡ 0) × (d.size ≡ 5) × (holds v.may d.place ≡ true)) found.2
      (by_place (λ d. (d.ty ≡ 0) × (d.size ≡ 5) × (holds v.may d.place ≡ true)) holder word w found.0 five five);
}

pub written_places : (v : SeatView) (holder word w p : ℕ) → IsPlace v.bodies p → IsPlace (written v holder word w).bodies p
written_places v holder word w p at = (
  with_word_in holder word w at.0,
  Contains-map (with_word_in holder word w) v.bodies at.0 at.1,
  by_place (λ d. d.place ≡ p) holder word w at.0 at.2 at.2,
)

marked_goes : (space : SpaceView) (v : SeatView) (told : Bool) (a : ℕ) (was wanted : Bool) → IsMarkingThreeObjects space v told
    → IsReadyToStore (cond wanted (marked_at v a was) v) → IsMarkingThreeObjects space (cond wanted (marked_at v a was) v) told
marked_goes space v told a was false is ready = is
marked_goes space v told a was true is ready =
    record { heap = is.heap; on = is.on; same = is.same; ready = ready; types = is.types; bodies = is.bodies }

still_told : (w : ℕ) (v : SeatView) (m : Marking) (s : SeatView) (n : Marking) → HasBarrier w v m s n → n.on ≡ m.on
still_told w v m s n h = elim (cases_Bool h.fresh) [
  | inl fresh ↦ elim (h.listed fresh) [ inl pushed ↦ ap (λ (k : Marking). k.on) pushed.1 | inr refused ↦ ap (λ (k : Marking). k.on) refused ]
  | inr stale ↦ ap (λ (k : Marking). k.on) (h.unlisted stale)
]

pub barrier_goes : (space : SpaceView) (w : ℕ) (v : SeatView) (m : Marking) (s : SeatView) (n : Marking) → IsMarkingThreeObjects space v m.on → IsReadyToStore s
    → HasBarrier w v m s n → IsMarkingThreeObjects space s n.on
barrier_goes space w v m s n is ready h =
    subst (λ told. IsMarkingThreeObjects space s told) (sym (still_told w v m s n h))
    (subst (λ (u : SeatView). IsMarkingThreeObjects space u m.on) (sym h.marked)
    (marked_goes space v m.on (w - 1) _ (asks_for_mark v w) is (subst IsReadyToStore h.marked ready)))

pub reference_is : (v : SeatView) (p w : ℕ) → IsPlace v.bodies p → w ≡ reference_to p → IsReference v.bodies w
reference_is v p w at e = inr (at.0, at.1, e ∙ ap reference_to (sym at.2))

-- objects stand where they stood
pub three_go : (space : SpaceView) (v s : SeatView) (told now : Bool) (a b c : ℕ) → AreThree space v told a b c → IsMarkingThreeObjects space s now
    → ((p : ℕ) → IsPlace v.bodies p → IsPlace s.bodies p) → AreThree space s now a b c
three_go space v s told now a b c three goes places =
    record { goes = goes; first = places a three.first; second = places b three.second; third = places c three.third }
