use Rattle.std.proofs.Common.{rules, ◌≡◌, ◌+◌, ◌<◌, ◌^◌, true, get_or, refl, sym, ap, ◌∙◌, subst, inl, inr, arith}
use mathlib.Core.Logic.{◌⊎◌}
use Rattle.std.specs.List.{Contains}
use Rattle.std.specs.Prelude.{slice_set}
use Rattle.std.proofs.lemmas.List.{get_or_default}
use Rattle.marker_core.specs.Bodies.{holds}
use Rattle.type_table.specs.Types.{declared_kinds}
use Rattle.type_table.specs.TracedWords.{traced_words_of}
use Rattle.page_words.specs.Seat.{SeatView, is_grey_at}
use Rattle.pair_notes.specs.declared.notes.Note.{Note}
use Rattle.pair_notes.specs.Notes.{NotesState, NotesGrow, group_at, no_notes}
use Rattle.ephemerons.specs.LookedAt.{IsLookedAt}
use Rattle.ephemerons.specs.LookedPlaces.{looked_as}
use Rattle.ephemerons.proofs.GreySteps.{ReadsFields, fewer_untraced, grey_ground, grey_looks, black_ground, black_looks}
use Rattle.ephemerons.proofs.Onward.{onward_looked, onward_marks, claimed_looks, noted_of_body, noted_first}
use Rattle.ephemerons.proofs.tracer.Tracer.trace_grey.Given as given
use Rattle.ephemerons.proofs.tracer.Tracer.trace_grey.Goals as goal

pub overflow_add-self : goal.overflow_add-self
overflow_add-self g c =
    let tracer = c.args.self.now in
    let grey : is_grey_at tracer.seat.now c.args.place ≡ true = sym c.in-Some.ensures.grey in
    let low : tracer.traced + 1 < 2 ^ 32 =
    omega (arith, fewer_untraced tracer.seat.now c.args.place c.bodies_lie_apart.ensures c.requires.place grey, c.requires.ready.ground.few) in
    search rules

read : (g : given.Over) (c : goal.After-trace_fields g)
    → ReadsFields c.args.self.now.types.now c.args.self.now.seat.now c.claim.new.seat c.trace_fields.new.seat c.args.self.now.marking.now c.trace_fields.new.marking
    (group_at c.args.self.now.groups.now 0) c.trace_fields.new.notes c.args.place
read g c =
    let tracer = c.args.self.now in
    record {
      view = c.bodies_lie_apart.ensures;
      place = c.requires.place;
      grey = sym c.in-Some.ensures.grey;
      claimed = c.in-Some.ensures.claimed.marks;
      marks = c.trace_fields.ensures.marks;
      within = c.trace_fields.ensures.within;
      strong = c.trace_fields.ensures.strong;
      notes = subst (λ (s : NotesState). NotesGrow tracer.types.now tracer.seat.now.bodies s c.trace_fields.new.notes)
          (get_or_default tracer.groups.now 0 c.index-self-0.result no_notes c.requires.ready.ground.own)
          (subst (λ bs. NotesGrow tracer.types.now bs (get_or tracer.groups.now 0 c.index-self-0.result) c.trace_fields.new.notes)
          (ap (λ (v : SeatView). v.bodies) c.in-Some.ensures.claimed.marks) c.trace_fields.ensures.notes);
      pairs = c.trace_fields.ensures.pairs;
      no_hand = c.trace_fields.ensures.hand;
      no_pending = c.trace_fields.ensures.marks.no_pending c.in-Some.ensures.claimed.no_pending;
    }

pub returns-in-Some-clause-keeps : goal.returns-in-Some-clause-keeps
returns-in-Some-clause-keeps g c =
    let tracer = c.args.self.now in
    record {
      space = refl;
      types = refl;
      seat = refl;
      marking = refl;
      groups = refl;
      ready = record {
        heap = ap (λ (v : SeatView). v.heap) c.trace_fields.ensures.marks.view ∙ ap (λ (v : SeatView). v.heap) c.in-Some.ensures.claimed.marks ∙ c.requires.ready.heap;
        ground = grey_ground tracer.types.now tracer.seat.now c.claim.new.seat c.trace_fields.new.seat tracer.marking.now c.trace_fields.new.marking tracer.groups.now
            c.trace_fields.new.notes tracer.traced c.args.place (read g c) c.requires.ready.ground;
      };
    }

pub returns-in-Some-clause-looks : goal.returns-in-Some-clause-looks
returns-in-Some-clause-looks g c =
    let tracer = c.args.self.now in
    grey_looks tracer.types.now tracer.seat.now c.claim.new.seat c.trace_fields.new.seat tracer.marking.now c.trace_fields.new.marking tracer.groups.now
    c.trace_fields.new.notes tracer.traced c.args.place (read g c) c.requires.ready.ground

pub returns-in-None-clause-keeps : goal.returns-in-None-clause-keeps
returns-in-None-clause-keeps g c =
    let tracer = c.args.self.now in
    record {
      space = refl;
      types = refl;
      seat = refl;
      marking = refl;
      groups = refl;
      ready = record {
        heap = ap (λ (v : SeatView). v.heap) c.in-None.ensures.failed.marks ∙ c.requires.ready.heap;
        ground = black_ground tracer.types.now tracer.seat.now c.claim.new.seat tracer.marking.now tracer.groups.now tracer.traced c.args.place
            c.in-None.ensures.failed (sym c.in-None.ensures.grey) c.requires.ready.ground;
      };
    }

pub returns-in-None-clause-looks : goal.returns-in-None-clause-looks
returns-in-None-clause-looks g c =
    let tracer = c.args.self.now in
    black_looks tracer.types.now tracer.seat.now c.claim.new.seat tracer.marking.now tracer.groups.now tracer.traced c.args.place
    c.in-None.ensures.failed (sym c.in-None.ensures.grey)

-- each new note is of the object that is traced
own_notes : (g : given.Over) (c : goal.After-trace_fields g) (note : Note) → Contains c.trace_fields.new.notes.notes note
    → Contains (group_at c.args.self.now.groups.now 0).notes note ⊎ (note.holder ≡ c.args.place)
own_notes g c note there =
    let tracer = c.args.self.now in
    let has = c.in-Some.ensures.body in
    elim (noted_of_body c.claim.new.seat c.trace_fields.new.seat (get_or tracer.groups.now 0 c.index-self-0.result) c.trace_fields.new.notes c.args.place
    (traced_words_of (declared_kinds tracer.types.now c.in-Some.ty)) has.0
    (subst (λ bs. Contains bs has.0) (sym (ap (λ (v : SeatView). v.bodies) c.in-Some.ensures.claimed.marks)) has.1) has.2 c.trace_fields.ensures.told note there) [
      | inl before ↦ inl (subst (λ (s : NotesState). Contains s.notes note)
          (get_or_default tracer.groups.now 0 c.index-self-0.result no_notes c.requires.ready.ground.own) before)
      | inr of ↦ inr of
    ]

pub returns-in-Some-clause-looked : goal.returns-in-Some-clause-looked
returns-in-Some-clause-looked g c here =
    let tracer = c.args.self.now in
    let v = tracer.seat.now in
    let u = c.claim.new.seat in
    let w = c.trace_fields.new.seat in
    let marked : u.marked ≡ v.marked = ap (λ (x : SeatView). x.marked) c.in-Some.ensures.claimed.marks in
    let after = slice_set tracer.groups.now 0 c.trace_fields.new.notes in
    let before = tracer.marking.now in
    let next = c.trace_fields.new.marking in
    let traced = tracer.traced in
    onward_marks tracer.types.now v u w before next tracer.groups.now after traced (traced + 1) marked c.trace_fields.ensures.marks c.args.place
    (noted_first tracer.groups.now c.trace_fields.new.notes c.args.place (own_notes g c)) here
    (claimed_looks tracer.types.now v u w before next tracer.groups.now after traced (traced + 1) marked c.trace_fields.ensures.marks c.args.place here
    c.claim.ensures.looked c.trace_fields.ensures.looked)

pub returns-in-None-clause-looked : goal.returns-in-None-clause-looked
returns-in-None-clause-looked g c here =
    let tracer = c.args.self.now in
    let v = tracer.seat.now in
    let u = c.claim.new.seat in
    let marked : u.marked ≡ v.marked = ap (λ (x : SeatView). x.marked) c.in-None.ensures.failed.marks in
    onward_looked tracer.types.now v u tracer.marking.now tracer.groups.now tracer.traced tracer.traced marked
    (looked_as (λ p. c.args.place ≡ p) (IsLookedAt tracer.types.now u) v u
    (λ p at. inl (subst (λ q. holds u.marked q ≡ true) at (subst (λ l. holds l c.args.place ≡ true) (sym marked) here))) c.claim.ensures.looked)
