use Rattle.std.proofs.Common.{rules, Vec, Global, ◌≡◌, ℕ, ◌+◌, ◌<◌, ◌%◌, ◌^◌, List, length, ◌∙◌, sym, ap, subst, refl, inl, inr, arith}
use Rattle.std.specs.List.{Contains}
use Rattle.std.proofs.lemmas.List.Elements.{Contains-get_or}
use Rattle.page_words.specs.MachineBodies.{IsPlace}
use Rattle.page_words.specs.Seat.{SeatView, IsView, unlooked}
use Rattle.pair_notes.specs.declared.notes.Note.{Note}
use Rattle.pair_notes.specs.Notes.{NotesState, IsNote}
use Rattle.pair_notes.specs.FieldWords.{key_there, word_below, word_is_no_place}
use Rattle.pair_notes.proofs.notes.Pairs.index_notes.Goals.{then-note-ne0+then-address-count, else-note-ne0, else-note-ne0-via-then-note-ne0+else-address-count, else-note-ne0-via-else-note-ne0}
use Rattle.pair_notes.proofs.notes.Pairs.index_notes.Goals as goal

-- the word of a pair's key is no header
key_beside : (v u n : SeatView) (note : Note) (a : ℕ) → IsView v → IsNote v.types v.bodies note → (note.word ≡ 0 → ⊥) → a ≡ (note.holder + note.word) % 2 ^ 32
    → u ≡ v → ((IsPlace u.bodies a → ⊥) → n ≡ u) → n ≡ v
key_beside v u n note a view is some at same beside = elim is [
  | inl itself ↦ absurd (some itself.0)
  | inr pair ↦
      (let has = key_there v note.holder note.word view pair in
      let whole : a ≡ note.holder + note.word = omega (arith, at, word_below v note.holder note.word view has, view.count) in
      beside (λ place. word_is_no_place v note.holder note.word view has
      (subst (λ p. IsPlace v.bodies p) whole (subst (λ (x : SeatView). IsPlace x.bodies a) same place))) ∙ same)
]

pub loop-i-preserved : goal.loop-i-preserved
loop-i-preserved g c = elim c.if-note-ne0.branch [
  | then-note-ne0+then-address-count w ↦ record {
    view = ap unlooked w.seat-is ∙ w.load-key.ensures.read refl ∙ c.loop-i.invariant.view;
    beside = λ all.
        (let note : Note = c.index-note.result.now in
        let items : List Note = c.loop-i.self-inside.notes.items in
        let same : items ≡ c.self.inside.notes.items = ap (λ (v : Vec Note Global). v.items) c.loop-i.invariant.notes in
        let low : c.loop-i.i < length items = omega (arith, c.loop-i-test.true, c.len-i-end.ensures, ap (λ (l : List Note). length l) same) in
        let there : Contains c.self.inside.notes.items note =
        subst (λ (l : List Note). Contains l note) same
        (subst (Contains items) (sym c.index-note.ensures) (Contains-get_or items c.loop-i.i note low)) in
        w.seat-is ∙ key_beside c.args.seat.now c.loop-i.seat w.load-key.new.seat note _ c.bodies_lie_apart.ensures (all note there) w.if-note-ne0.true refl
        (c.loop-i.invariant.beside all) (w.load-key.ensures.beside refl));
    notes = search rules;
    overflow = search rules;
    refused = search rules;
  }
  | else-note-ne0 w ↦ record {
    view = search rules;
    beside = λ all. w.seat-is ∙ c.loop-i.invariant.beside all;
    notes = search rules;
    overflow = search rules;
    refused = search rules;
  }
]

pub returns-clause-beside : goal.returns-clause-beside
returns-clause-beside g c all = c.loop-i.invariant.beside (λ note there. all note (subst (λ (s : NotesState). Contains s.notes note) c.self.view_is there))
