use Rattle.std.proofs.Common.{◌≡◌, ℕ, ◌-◌, ◌^◌, ◌<◌, ◌≤◌, Bool, List, length, get_or, sym, ap, ◌∙◌, subst, arith}
use Rattle.std.specs.List.{Contains, sum_by}
use Rattle.std.proofs.Math.Facts.{Fits-of_lt}
use Rattle.std.proofs.lemmas.List.{take_all}
use Rattle.gc_graph.specs.declared.kind.Kind.TheVariants.{Weak}
use Rattle.gc_graph.specs.Fields.{field_words}
use Rattle.gc_graph.specs.State.{ObjectType}
use Rattle.type_table.specs.Types.{declared_kinds, offsets_of_kind}
use Rattle.marker_core.specs.Bodies.{holds}
use Rattle.marker_core.specs.declared.states.Body.{Body}
use Rattle.page_words.specs.BodyPlaces.{same_body}
use Rattle.page_words.specs.Looking.{looks_on}
use Rattle.page_words.specs.Seat.{SeatView, IsView, OnlyLooked, unlooked}
use Rattle.weak_clearing.specs.declared.weak_handles.WeakHandles.TheVariants.{Fields}
use Rattle.weak_clearing.specs.Clearing.{MarkedHaveWeakReferences, names_unmarked}
use Rattle.weak_clearing.specs.Steps.{HasHandle, IsMarkedOf, NamesUnmarked}
use Rattle.weak_clearing.proofs.DyingWords.{weight, weights_are, weights_below, one_dying, none_dying, still_fits}
use Rattle.weak_clearing.proofs.HandleWords.{BeginsField, field_told}
use Rattle.weak_clearing.proofs.Holder.{holder_handle, handle_looked}
use Rattle.weak_clearing.proofs.dying_fields.mask_of_marked.Goals as goal
use Rattle.weak_clearing.proofs.dying_fields.mask_of_marked.Goals.{then-is_dying, else-is_dying}

told : (types : List ObjectType) (v : SeatView) (ty : ℕ) (words : List ℕ) → types ≡ v.types → words ≡ offsets_of_kind Weak (declared_kinds types ty)
    → words ≡ offsets_of_kind Weak (declared_kinds v.types ty)
told types v ty words same is = is ∙ ap (λ ts. offsets_of_kind Weak (declared_kinds ts ty)) same

-- the word at a told offset is one of the first 64 of fields
low_word : (v : SeatView) (ty : ℕ) (words : List ℕ) (k : ℕ) → words ≡ offsets_of_kind Weak (declared_kinds v.types ty) → k < length words
    → field_words (declared_kinds v.types ty) ≤ 64 → (2 ≤ get_or words k 0) × (get_or words k 0 - 2 < 64)
low_word v ty words k is low few =
    let field : BeginsField Weak 2 (declared_kinds v.types ty) (get_or words k 0) = field_told Weak (declared_kinds v.types ty) words k is low in
    (omega (arith, field.at), omega (arith, field.at, field.low, few))

-- the answer is that of the body, whichever headers were looked at
names_at : (v u : SeatView) (holder word : ℕ) (answer : Bool) → OnlyLooked v u → NamesUnmarked u holder word answer → (b : Body) → Contains v.bodies b
    → b.place ≡ holder → names_unmarked v.marked (get_or b.fields (word - 2) 0) ≡ answer
names_at v u holder word answer same (w, is, told) b there at =
    let now : Contains u.bodies b = subst (λ bs. Contains bs b) (ap (λ (x : SeatView). x.bodies) (sym same)) there in
    ap (λ (x : SeatView). names_unmarked x.marked (get_or b.fields (word - 2) 0)) (sym same) ∙ ap (names_unmarked u.marked) (sym (is b now at)) ∙ sym told

-- a body at the place is of the type, and has its words
module _ (v : SeatView) (holder ty : ℕ) (view : IsView v) (have : MarkedHaveWeakReferences v) (marked : IsMarkedOf v holder ty) (b : Body)
    (there : Contains v.bodies b) (at : b.place ≡ holder) where
  of_type : b.ty ≡ ty
  of_type = ap (λ (x : Body). x.ty) (same_body v b marked.0 view there marked.1 (at ∙ sym marked.2)) ∙ marked.3

  long_fields : field_words (declared_kinds v.types b.ty) ≤ length b.fields
  long_fields = (have b there (ap (holds v.marked) at ∙ marked.4)).whole

pub is_dying-requires-clause-field : goal.is_dying-requires-clause-field
is_dying-requires-clause-field c =
    let v : SeatView = c.args.seat.now in
    let words : List ℕ = c.weak_words-word-items.result.now in
    let has : HasHandle Fields v c.args.holder (get_or words c.loop-word.word-index 0) =
    holder_handle Fields v c.args.holder c.args.ty words c.loop-word.word-index c.bodies_lie_apart.ensures c.requires.references c.requires.marked
    (told c.args.types.now v c.args.ty words c.requires.types c.weak_words-word-items.ensures) c.loop-word-test.true in
    handle_looked Fields v c.loop-word.seat c.args.holder (get_or words c.loop-word.word-index 0) c.loop-word.invariant.view has

pub overflow_sub-mask : goal.overflow_sub-mask
overflow_sub-mask c =
    (low_word c.args.seat.now c.args.ty c.weak_words-word-items.result.now c.loop-word.word-index
    (told c.args.types.now c.args.seat.now c.args.ty c.weak_words-word-items.result.now c.requires.types c.weak_words-word-items.ensures) c.loop-word-test.true c.requires.shown).0

pub overflow_shl-mask : goal.overflow_shl-mask
overflow_shl-mask c =
    (low_word c.args.seat.now c.args.ty c.weak_words-word-items.result.now c.loop-word.word-index
    (told c.args.types.now c.args.seat.now c.args.ty c.weak_words-word-items.result.now c.requires.types c.weak_words-word-items.ensures) c.loop-word-test.true c.requires.shown).1

pub overflow_add-mask : goal.overflow_add-mask
overflow_add-mask c =
    let v : SeatView = c.args.seat.now in
    let words : List ℕ = c.weak_words-word-items.result.now in
    let (b, there, at, of, marked) = c.requires.marked in
    let is : words ≡ offsets_of_kind Weak (declared_kinds v.types b.ty) =
    told c.args.types.now v c.args.ty words c.requires.types c.weak_words-word-items.ensures ∙ ap (λ t. offsets_of_kind Weak (declared_kinds v.types t)) (sym of) in
    Fits-of_lt
    (still_fits v.marked b.fields words c.loop-word.word-index c.loop-word.mask c.loop-word-test.true (c.loop-word.invariant.mask b there at)
    (names_at v c.loop-word.seat c.args.holder (get_or words c.loop-word.word-index 0) c.is_dying.result c.loop-word.invariant.view c.is_dying.ensures.names b there at
    ∙ c.if-is_dying.true) (overflow_shl-mask c)
    (subst (λ offsets. sum_by (weight v.marked b.fields) offsets < 2 ^ 64) (sym is)
    (weights_below v.marked (declared_kinds v.types b.ty) b.fields (c.requires.references b there (ap (holds v.marked) at ∙ marked)).whole
    (subst (λ t. field_words (declared_kinds v.types t) ≤ 64) (sym of) c.requires.shown))))

pub loop-word-preserved : goal.loop-word-preserved
loop-word-preserved c =
    let v : SeatView = c.args.seat.now in
    let words : List ℕ = c.weak_words-word-items.result.now in
    let k : ℕ = c.loop-word.word-index in
    let few = (low_word v c.args.ty words k (told c.args.types.now v c.args.ty words c.requires.types c.weak_words-word-items.ensures) c.loop-word-test.true c.requires.shown).1 in
    let answers = names_at v c.loop-word.seat c.args.holder (get_or words k 0) c.is_dying.result c.loop-word.invariant.view c.is_dying.ensures.names in
    record {
      view = c.is_dying.ensures.view ∙ ap unlooked c.loop-word.invariant.view;
      looked = looks_on v c.loop-word.seat c.is_dying.new.seat c.loop-word.invariant.looked c.is_dying.ensures.looked;
      mask = λ b there at.
          elim c.if-is_dying.branch [
            | then-is_dying w ↦
                one_dying v.marked b.fields words k c.loop-word.mask c.loop-word-test.true (c.loop-word.invariant.mask b there at) _
                (answers b there at ∙ w.if-is_dying.true) few w.mask-is
            | else-is_dying w ↦
                none_dying v.marked b.fields words k c.loop-word.mask c.loop-word-test.true (c.loop-word.invariant.mask b there at) _
                (answers b there at ∙ w.if-is_dying.false) w.mask-is
          ];
    }

pub returns-clause-dying : goal.returns-clause-dying
returns-clause-dying c b there at =
    let v : SeatView = c.args.seat.now in
    let words : List ℕ = c.weak_words-word-items.result.now in
    c.loop-word.invariant.mask b there at ∙ ap (sum_by (weight v.marked b.fields)) (take_all c.loop-word.word-index words (omega arith))
    ∙ ap (sum_by (weight v.marked b.fields))
    (told c.args.types.now v c.args.ty words c.requires.types c.weak_words-word-items.ensures
    ∙ ap (λ t. offsets_of_kind Weak (declared_kinds v.types t)) (sym (of_type v c.args.holder c.args.ty c.bodies_lie_apart.ensures c.requires.references c.requires.marked b there at)))
    ∙ weights_are v.marked (declared_kinds v.types b.ty) b.fields
    (long_fields v c.args.holder c.args.ty c.bodies_lie_apart.ensures c.requires.references c.requires.marked b there at)
