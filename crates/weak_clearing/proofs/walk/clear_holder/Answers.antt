use Rattle.std.proofs.Common.{◌≡◌, ℕ, List, get_or, take, arith, refl, ap, sym, ◌∙◌}
use Rattle.std.proofs.lemmas.List.{take_all, take_more}
use Rattle.gc_graph.specs.State.{ObjectType}
use Rattle.type_table.specs.Types.{declared_kinds, offsets_of_kind}
use Rattle.page_words.specs.Seat.{SeatView, unlooked}
use Rattle.weak_clearing.specs.declared.weak_handles.WeakHandles.{WeakHandles}
use Rattle.weak_clearing.specs.Steps.{HasHandle, kind_of_handles, handle_cleared}
use Rattle.weak_clearing.proofs.Holder.{holder_handle, handle_stays, handle_looked, listed_none, listed_cleared, one_more_cleared, all_listed}
use Rattle.page_words.specs.Looking.{looks_same, looks_on}
use Rattle.weak_clearing.proofs.walk.clear_holder.Goals as goal

pub loop-word-init : goal.loop-word-init
loop-word-init c = record {
  cleared = ap unlooked (listed_none c.args.handles c.args.seat.now c.args.holder);
  looked = looks_same c.args.seat.now c.args.seat.now refl;
}

told : (handles : WeakHandles) (types : List ObjectType) (v : SeatView) (ty : ℕ) (words : List ℕ) → types ≡ v.types
    → words ≡ offsets_of_kind (kind_of_handles handles) (declared_kinds types ty) → words ≡ offsets_of_kind (kind_of_handles handles) (declared_kinds v.types ty)
told handles types v ty words same is = is ∙ ap (λ ts. offsets_of_kind (kind_of_handles handles) (declared_kinds ts ty)) same

pub clear_handle-requires-clause-handle : goal.clear_handle-requires-clause-handle
clear_handle-requires-clause-handle c =
    let words : List ℕ = c.words_of-words.result.now in
    let offset : ℕ = get_or words c.loop-word.word-index 0 in
    let has : HasHandle c.args.handles c.args.seat.now c.args.holder offset =
    holder_handle c.args.handles c.args.seat.now c.args.holder c.args.ty words c.loop-word.word-index c.bodies_lie_apart.ensures c.requires.references c.requires.marked
    (told c.args.handles c.args.types.now c.args.seat.now c.args.ty words c.requires.types c.words_of-words.ensures) c.loop-word-test.true in
    handle_looked c.args.handles (listed_cleared c.args.handles c.args.seat.now c.args.holder (take c.loop-word.word-index words)) c.loop-word.seat c.args.holder offset
    c.loop-word.invariant.cleared
    (handle_stays c.args.handles c.args.seat.now c.args.holder offset (take c.loop-word.word-index words) has)

pub loop-word-preserved : goal.loop-word-preserved
loop-word-preserved c =
    let words : List ℕ = c.words_of-words.result.now in
    let k : ℕ = c.loop-word.word-index in
    let offset : ℕ = get_or words k 0 in
    record {
      cleared =
          c.clear_handle.ensures.cleared
          ∙ ap (λ (v : SeatView). handle_cleared c.args.handles v c.args.holder offset) c.loop-word.invariant.cleared
          ∙ ap unlooked (one_more_cleared c.args.handles c.args.seat.now c.args.holder offset (take k words))
          ∙ ap (λ ws. unlooked (listed_cleared c.args.handles c.args.seat.now c.args.holder ws)) (sym (take_more words k 0 c.loop-word-test.true));
      looked = looks_on c.args.seat.now c.loop-word.seat c.clear_handle.new.seat c.loop-word.invariant.looked c.clear_handle.ensures.looked;
    }

pub returns-clause-cleared : goal.returns-clause-cleared
returns-clause-cleared c =
    let words : List ℕ = c.words_of-words.result.now in
    c.loop-word.invariant.cleared
    ∙ ap (λ ws. unlooked (listed_cleared c.args.handles c.args.seat.now c.args.holder ws)) (
    take_all c.loop-word.word-index words (omega arith)
    ∙ told c.args.handles c.args.types.now c.args.seat.now c.args.ty words c.requires.types c.words_of-words.ensures
    )
    ∙ ap unlooked (all_listed c.args.handles c.args.seat.now c.args.holder c.args.ty c.bodies_lie_apart.ensures c.requires.references c.requires.marked)
