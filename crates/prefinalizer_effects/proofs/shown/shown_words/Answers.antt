use Rattle.std.proofs.Common.{◌≡◌, ℕ, ◌+◌, ◌<◌, ◌≤◌, List, length, take, get_or, refl, rules, sym, ap, ◌∙◌, subst, inl, inr, arith}
use Rattle.std.specs.List.{Contains}
use Rattle.std.proofs.lemmas.Bool.{cases_lt, le-leb}
use Rattle.std.proofs.lemmas.List.{length-set, get_or-set_other}
use Rattle.gc_graph.specs.declared.kind.Kind.{Kind}
use Rattle.gc_graph.specs.Fields.{field_words}
use Rattle.type_table.specs.Types.{declared_kinds, kind_of, IsWordOfField}
use Rattle.type_table.specs.Layouts.{kinds_of_words}
use Rattle.marker_core.specs.Layout.{stop_at}
use Rattle.page_words.specs.Seat.{SeatView}
use Rattle.prefinalizer_effects.specs.Shown.{shown_of_kinds}
use Rattle.prefinalizer_effects.proofs.FieldWords.{type_known, kinds_told, size_told, long_fields, fields_inside}
use Rattle.page_words.specs.Looking.{looks_at, looks_on, looks_read}
use Rattle.prefinalizer_effects.proofs.WordsShown.{shown_length, word_shown, one_more_shown, first_words}
use Rattle.type_table.specs.KindLaws.{length-kinds_of_words}
use Rattle.prefinalizer_effects.proofs.shown.shown_words.Goals as goal

pub size_of-requires-clause-ty : goal.size_of-requires-clause-ty
size_of-requires-clause-ty c =
    let at = c.requires.place in
    type_known c.args.seat.now c.args.types.now at.0 c.header_at-ty.result c.requires.types (c.header_at-ty.ensures.header at.0 at.1 at.2) (c.requires.typed at.0 at.1)

pub load-w-requires-clause-address : goal.load-w-requires-clause-address
load-w-requires-clause-address c =
    let v : SeatView = c.args.seat.now in
    let at = c.requires.place in
    let size = size_told v c.args.types.now at.0 c.header_at-ty.result c.size_of.result c.requires.types (c.header_at-ty.ensures.header at.0 at.1 at.2) c.size_of.ensures.size in
    let long = long_fields v at.0 c.bodies_lie_apart.ensures at.1 (c.requires.typed at.0 at.1) in
    let count : c.loop-i.seat.count ≡ v.count = ap (λ (x : SeatView). x.count) c.loop-i.invariant.view in
    let low : c.loop-i.i < length at.0.fields = omega (arith, c.loop-i-test.true, c.min-count.ensures, size, long) in
    let inside : c.args.place + (2 + c.loop-i.i) ≤ c.loop-i.seat.count = omega (arith, low, count, at.2, fields_inside v at.0 c.bodies_lie_apart.ensures at.1) in
    omega (arith, inside)

pub load-w-requires-clause-allowed : goal.load-w-requires-clause-allowed
load-w-requires-clause-allowed c = le-leb (c.args.place + (2 + c.loop-i.i)) (stop_at c.loop-i.seat.count) (load-w-requires-clause-address c)

pub loop-i-init : goal.loop-i-init
loop-i-init c = record {
  view = c.header_at-ty.ensures.view;
  looked = looks_at c.args.seat.now c.header_at-ty.new.seat c.args.place c.header_at-ty.ensures.looked;
  long = search rules;
  rest = λ k past. refl;
  front = λ b there at. refl;
}

pub loop-i-preserved : goal.loop-i-preserved
loop-i-preserved c = record {
  view = c.load-w.ensures.read refl ∙ c.loop-i.invariant.view;
  looked =
      looks_on c.args.seat.now c.loop-i.seat c.load-w.new.seat c.loop-i.invariant.looked
      (looks_read c.loop-i.seat c.load-w.new.seat (c.args.place + (2 + c.loop-i.i)) c.load-w.result c.load-w.ensures.view);
  long = length-set c.loop-i.into c.loop-i.i c.shown.result ∙ c.loop-i.invariant.long;
  rest = λ k past.
      get_or-set_other c.loop-i.into c.loop-i.i k c.shown.result 0 (λ e. omega (arith, e, past)) ∙ c.loop-i.invariant.rest k (omega (arith, past));
  front = λ b there at.
      let v : SeatView = c.args.seat.now in
      let i : ℕ = c.loop-i.i in
      let kinds : List Kind = declared_kinds v.types b.ty in
      let is_head = c.header_at-ty.ensures.header b there at in
      let same = kinds_told v c.args.types.now b c.header_at-ty.result c.requires.types is_head in
      let size = size_told v c.args.types.now b c.header_at-ty.result c.size_of.result c.requires.types is_head c.size_of.ensures.size in
      let long = long_fields v b c.bodies_lie_apart.ensures there (c.requires.typed b there) in
      let low : i < field_words kinds = omega (arith, c.loop-i-test.true, c.min-count.ensures, size) in
      let now : Contains c.loop-i.seat.bodies b = subst (λ bs. Contains bs b) (ap (λ (x : SeatView). x.bodies) (sym c.loop-i.invariant.view)) there in
      let is : c.load-w.result ≡ get_or b.fields i 0 = c.load-w.ensures.word.field b i now (omega (arith, low, long)) (omega (arith, at)) in
      let tells : (field : ℕ) → IsWordOfField kinds field (2 + i) → c.kind_at.result ≡ kind_of kinds field =
      subst (λ (ks : List Kind). (field : ℕ) → IsWordOfField ks field (2 + i) → c.kind_at.result ≡ kind_of ks field) same c.kind_at.ensures in
      one_more_shown c.loop-i.into (shown_of_kinds (kinds_of_words kinds) b.fields) i c.shown.result (omega (arith, c.loop-i.invariant.long, c.loop-i-test.true, c.min-count.ensures))
      (omega (arith, low, shown_length (kinds_of_words kinds) b.fields (omega (arith, length-kinds_of_words kinds, long)), length-kinds_of_words kinds))
      (word_shown kinds b.fields i c.kind_at.result c.load-w.result c.shown.result c.fields_stand_apart.ensures low long tells is c.shown.ensures)
      (c.loop-i.invariant.front b there at);
}

pub returns-clause-words : goal.returns-clause-words
returns-clause-words c b there at =
    let v : SeatView = c.args.seat.now in
    let kinds : List Kind = declared_kinds v.types b.ty in
    let xs : List ℕ = shown_of_kinds (kinds_of_words kinds) b.fields in
    let size = size_told v c.args.types.now b c.header_at-ty.result c.size_of.result c.requires.types (c.header_at-ty.ensures.header b there at) c.size_of.ensures.size in
    let long = long_fields v b c.bodies_lie_apart.ensures there (c.requires.typed b there) in
    let count : length xs ≡ field_words kinds = omega (arith, shown_length (kinds_of_words kinds) b.fields (omega (arith, length-kinds_of_words kinds, long)), length-kinds_of_words kinds) in
    let done : c.loop-i.i ≡ c.min-count.result = omega (arith, c.loop-i-test.false, c.loop-i.auto.i-end) in
    ap (λ n. take n c.loop-i.into) (sym done) ∙ c.loop-i.invariant.front b there at ∙ ap (λ n. take n xs) done
    ∙ first_words xs c.min-count.result (elim (cases_lt 64 (field_words kinds)) [
      | inl more ↦ inl (omega (arith, more, size, c.min-count.ensures))
      | inr few ↦ inr (omega (arith, few, size, c.min-count.ensures, count), omega (arith, few, count))
    ])
