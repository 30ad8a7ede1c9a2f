-- Where no type has a handle, nothing is cleared.
use Rattle.std.proofs.Common.{◌≡◌, ℕ, ◌<◌, List, [], length, refl, sym, ap, ◌∙◌}
use Rattle.std.proofs.lemmas.Bool.{cond_both}
use Rattle.type_table.specs.Types.{declared_kinds, offsets_of_kind}
use Rattle.marker_core.specs.declared.states.Body.{Body}
use Rattle.marker_core.specs.Bodies.{holds}
use Rattle.page_words.specs.Seat.{SeatView, with_bodies}
use Rattle.weak_clearing.specs.declared.weak_handles.WeakHandles.{WeakHandles}
use Rattle.weak_clearing.specs.Clearing.{MarkedHaveReferencesOf}
use Rattle.weak_clearing.specs.Steps.{kind_of_handles, clear_words_of, clear_handles, all_cleared}
use Rattle.weak_clearing.proofs.Lists.{map_stays}
use Rattle.weak_clearing.proofs.HandleWords.{clear_listed, listed_are_cleared}

pub none_cleared : (handles : WeakHandles) (v : SeatView) → MarkedHaveReferencesOf (kind_of_handles handles) v
    → ((ty : ℕ) → ty < length v.types → offsets_of_kind (kind_of_handles handles) (declared_kinds v.types ty) ≡ []) → v ≡ all_cleared handles v
none_cleared handles v have none =
    ap (λ (bs : List Body). with_bodies v bs)
    (sym (map_stays (clear_handles handles v.types v.marked) v.bodies (λ b there.
    cond_both (holds v.marked b.place) (record b { fields = clear_words_of handles v.marked (declared_kinds v.types b.ty) b.fields }) b (λ c. c ≡ b)
    (λ marked.
    let has = have b there marked in
    ap (λ (fs : List ℕ). (let x : Body = record b { fields = fs } in x))
    (sym (listed_are_cleared handles v.marked (declared_kinds v.types b.ty) b.fields has.whole)
    ∙ ap (λ offsets. clear_listed handles v.marked offsets b.fields) (none b.ty has.typed)))
    (λ _. refl))))
