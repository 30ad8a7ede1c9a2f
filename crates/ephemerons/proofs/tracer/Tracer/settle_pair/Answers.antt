use Rattle.std.proofs.Common.{rules, ◌≡◌, ℕ, ◌+◌, ◌<◌, ◌^◌, true, false, List, [], ◌∷◌, ◌++◌, None, refl, sym, ap, ◌∙◌, subst, inl, inr, arith}
use Rattle.std.specs.List.{Contains}
use Rattle.std.proofs.lemmas.Bool.{true≢false}
use Rattle.gc_graph.specs.State.{ObjectType}
use Rattle.object_headers.specs.Offsets.{reference_to}
use Rattle.marker_core.specs.Bodies.{holds}
use Rattle.page_words.specs.Seat.{SeatView, OnlyLooked, unlooked}
use Rattle.pair_notes.specs.BodyGraph.{BodyHasPair, pair_offsets, word_at}
use Rattle.pair_notes.specs.Marking.{GrowsWithin}
use Rattle.ephemerons.specs.LookedAt.{IsLookedAt, LooksOnlyAt, LooksWithin}
use Rattle.ephemerons.specs.LookedPlaces.{looked_nowhere, looked_once, looked_then, looked_as}
use Rattle.pair_notes.specs.FieldWords.{key_there, value_there, word_below}
use Rattle.ephemerons.proofs.Graph.{pair_within}
use Rattle.ephemerons.proofs.MarkSteps.{same_bodies}
use Rattle.ephemerons.specs.Fixpoint.{stage}
use Rattle.pair_notes.specs.Notes.{note_of}
use Rattle.ephemerons.proofs.Looks.{Looks-then, settled_stays}
use Rattle.ephemerons.proofs.OnlyLooks.{grows_from, ground_looked, looks_none, stage_looked}
use Rattle.ephemerons.proofs.Onward.{onward_looked, onward_marks}
use Rattle.ephemerons.proofs.PairWords.{key_reference, marked_key, value_may, pair_settled}
use Rattle.ephemerons.proofs.MarkStages.{marks_work, marks_ground, marks_lighter, marks_still}
use Rattle.ephemerons.proofs.tracer.Tracer.settle_pair.Goals as goal

pub word_of-key-requires-clause-field : goal.word_of-key-requires-clause-field
word_of-key-requires-clause-field g c =
    let v = c.args.self.now.seat.now in
    rw (ap (λ (u : SeatView). u.bodies) c.is_marked.ensures.view) (key_there v c.args.holder c.args.word c.bodies_lie_apart.ensures
    (subst (λ (ts : List ObjectType). BodyHasPair ts v.bodies c.args.holder c.args.word) (sym c.requires.ready.ground.known) c.requires.pair))

pub names_marked-requires-clause-reference : goal.names_marked-requires-clause-reference
names_marked-requires-clause-reference g c =
    let tracer = c.args.self.now in
    let has : BodyHasPair tracer.types.now tracer.seat.now.bodies c.args.holder c.args.word = c.requires.pair in
    rw (c.word_of-key.ensures.view, ap (λ (u : SeatView). u.bodies) c.is_marked.ensures.view)
    (key_reference tracer.types.now tracer.seat.now.bodies c.args.holder c.args.word c.word_of-key.result c.requires.ready.ground.references has
    (c.word_of-key.ensures.word has.0 (rw (ap (λ (u : SeatView). u.bodies) c.is_marked.ensures.view) has.1) has.2))

-- what was looked at before the value is loaded
looked : (v first key second value : SeatView) → OnlyLooked v first → key ≡ first → OnlyLooked key second → value ≡ second → OnlyLooked v value
looked v first key second value one two three four = ap unlooked four ∙ three ∙ ap unlooked two ∙ one

pub returns-then-not-is_marked-clause-keeps : goal.returns-then-not-is_marked-clause-keeps
returns-then-not-is_marked-clause-keeps g c =
    let tracer = c.args.self.now in
    record {
      space = refl;
      types = refl;
      seat = refl;
      marking = refl;
      groups = refl;
      ready = record {
        heap = ap (λ (v : SeatView). v.heap) c.is_marked.ensures.view ∙ c.requires.ready.heap;
        ground = ground_looked tracer.seat.now c.is_marked.new.seat c.is_marked.ensures.view tracer.types.now tracer.marking.now tracer.groups.now tracer.traced
            c.requires.ready.ground;
      };
    }

pub returns-then-not-is_marked-clause-looks : goal.returns-then-not-is_marked-clause-looks
returns-then-not-is_marked-clause-looks g c =
    let tracer = c.args.self.now in
    looks_none tracer.seat.now c.is_marked.new.seat c.is_marked.ensures.view tracer.types.now tracer.marking.now tracer.groups.now tracer.traced

pub returns-then-not-names_marked-clause-keeps : goal.returns-then-not-names_marked-clause-keeps
returns-then-not-names_marked-clause-keeps g c =
    let tracer = c.args.self.now in
    record {
      space = refl;
      types = refl;
      seat = refl;
      marking = refl;
      groups = refl;
      ready = record {
        heap = ap (λ (v : SeatView). v.heap) (c.names_marked.ensures.view ∙ ap unlooked c.word_of-key.ensures.view ∙ c.is_marked.ensures.view) ∙ c.requires.ready.heap;
        ground = ground_looked tracer.seat.now c.names_marked.new.seat
            (c.names_marked.ensures.view ∙ ap unlooked c.word_of-key.ensures.view ∙ c.is_marked.ensures.view) tracer.types.now tracer.marking.now tracer.groups.now
            tracer.traced c.requires.ready.ground;
      };
    }

pub returns-then-not-names_marked-clause-looks : goal.returns-then-not-names_marked-clause-looks
returns-then-not-names_marked-clause-looks g c =
    let tracer = c.args.self.now in
    looks_none tracer.seat.now c.names_marked.new.seat
    (c.names_marked.ensures.view ∙ ap unlooked c.word_of-key.ensures.view ∙ c.is_marked.ensures.view) tracer.types.now tracer.marking.now tracer.groups.now
    tracer.traced

pub returns-then-not-names_marked-clause-settled : goal.returns-then-not-names_marked-clause-settled
returns-then-not-names_marked-clause-settled g c told =
    let tracer = c.args.self.now in
    let same : OnlyLooked tracer.seat.now c.names_marked.new.seat =
    c.names_marked.ensures.view ∙ ap unlooked c.word_of-key.ensures.view ∙ c.is_marked.ensures.view in
    settled_stays tracer.types.now (stage tracer.seat.now tracer.marking.now tracer.groups.now tracer.traced)
    (stage c.names_marked.new.seat tracer.marking.now tracer.groups.now tracer.traced)
    (stage_looked tracer.seat.now c.names_marked.new.seat same tracer.types.now tracer.marking.now tracer.groups.now tracer.traced) (note_of c.args.holder c.args.word)
    (pair_settled tracer.types.now tracer.seat.now c.args.holder c.args.word c.requires.pair (λ b k w there at key value holder_marked key_marked.
    (let is_key : c.word_of-key.result ≡ word_at b c.args.word = c.word_of-key.ensures.word b (rw (ap (λ (u : SeatView). u.bodies) c.is_marked.ensures.view) there) at in
    let yes_marked : c.names_marked.result ≡ true =
    c.names_marked.ensures.named k (is_key ∙ key) ∙ rw (c.word_of-key.ensures.view, ap (λ (u : SeatView). u.marked) c.is_marked.ensures.view) key_marked in
    absurd (true≢false (sym yes_marked ∙ c.if-not-names_marked.true)))))

pub overflow_add-word : goal.overflow_add-word
overflow_add-word g c =
    let v = c.args.self.now.seat.now in
    let there = value_there v c.args.holder c.args.word c.bodies_lie_apart.ensures
    (subst (λ (ts : List ObjectType). BodyHasPair ts v.bodies c.args.holder c.args.word) (sym c.requires.ready.ground.known) c.requires.pair) in
    let low : c.args.word + 1 < 2 ^ 32 =
    omega (arith, word_below v c.args.holder (c.args.word + 1) c.bodies_lie_apart.ensures there, c.bodies_lie_apart.ensures.count) in
    search rules

pub word_of-value-requires-clause-field : goal.word_of-value-requires-clause-field
word_of-value-requires-clause-field g c =
    let v = c.args.self.now.seat.now in
    rw (ap (λ (u : SeatView). u.bodies) c.names_marked.ensures.view, c.word_of-key.ensures.view, ap (λ (u : SeatView). u.bodies) c.is_marked.ensures.view)
    (value_there v c.args.holder c.args.word c.bodies_lie_apart.ensures
    (subst (λ (ts : List ObjectType). BodyHasPair ts v.bodies c.args.holder c.args.word) (sym c.requires.ready.ground.known) c.requires.pair))

pub mark_reference-requires-clause-may : goal.mark_reference-requires-clause-may
mark_reference-requires-clause-may g c p names =
    let tracer = c.args.self.now in
    let v = tracer.seat.now in
    let has : BodyHasPair tracer.types.now v.bodies c.args.holder c.args.word = c.requires.pair in
    let is_key : c.word_of-key.result ≡ word_at has.0 c.args.word = c.word_of-key.ensures.word has.0 (rw (ap (λ (u : SeatView). u.bodies) c.is_marked.ensures.view) has.1) has.2 in
    let is_value : c.word_of-value.result ≡ word_at has.0 (c.args.word + 1) = c.word_of-value.ensures.word has.0
    (rw (ap (λ (u : SeatView). u.bodies) c.names_marked.ensures.view, c.word_of-key.ensures.view, ap (λ (u : SeatView). u.bodies) c.is_marked.ensures.view) has.1) has.2 in
    let key = marked_key v c.word_of-key.result c.names_marked.result
    (key_reference tracer.types.now v.bodies c.args.holder c.args.word c.word_of-key.result c.requires.ready.ground.references has is_key)
    (rw (c.word_of-key.ensures.view, ap (λ (u : SeatView). u.marked) c.is_marked.ensures.view) at c.names_marked.ensures.named) c.names_marked.ensures.null c.if-not-names_marked.false in
    subst (λ (u : SeatView). holds u.may p ≡ true) (sym (looked tracer.seat.now c.is_marked.new.seat c.word_of-key.new.seat c.names_marked.new.seat c.word_of-value.new.seat c.is_marked.ensures.view
    c.word_of-key.ensures.view c.names_marked.ensures.view c.word_of-value.ensures.view))
    (value_may v has.0 c.args.word key.0 p c.bodies_lie_apart.ensures c.requires.ready.ground.on has.1
    (subst (λ (ts : List ObjectType). Contains (pair_offsets ts has.0) c.args.word) (sym c.requires.ready.ground.known) has.3)
    (subst (λ q. holds v.marked q ≡ true) (sym has.2) (sym c.is_marked.ensures.mark ∙ c.if-not-is_marked.false)) (sym is_key ∙ key.1) key.2
    (sym is_value ∙ names))

pub returns-clause-keeps : goal.returns-clause-keeps
returns-clause-keeps g c =
    let tracer = c.args.self.now in
    record {
      space = refl;
      types = refl;
      seat = refl;
      marking = refl;
      groups = refl;
      ready = record {
        heap = ap (λ (v : SeatView). v.heap) c.mark_reference.ensures.marks.view
            ∙ ap (λ (v : SeatView). v.heap) (looked tracer.seat.now c.is_marked.new.seat c.word_of-key.new.seat c.names_marked.new.seat c.word_of-value.new.seat
            c.is_marked.ensures.view c.word_of-key.ensures.view c.names_marked.ensures.view c.word_of-value.ensures.view) ∙ c.requires.ready.heap;
        ground = marks_ground tracer.types.now c.word_of-value.new.seat c.mark_reference.new.seat tracer.marking.now c.mark_reference.new.marking tracer.groups.now tracer.traced
            c.mark_reference.ensures.marks
            (ground_looked tracer.seat.now c.word_of-value.new.seat (looked tracer.seat.now c.is_marked.new.seat c.word_of-key.new.seat c.names_marked.new.seat c.word_of-value.new.seat c.is_marked.ensures.view
            c.word_of-key.ensures.view c.names_marked.ensures.view c.word_of-value.ensures.view) tracer.types.now tracer.marking.now tracer.groups.now tracer.traced c.requires.ready.ground);
      };
    }

pub returns-clause-looks : goal.returns-clause-looks
returns-clause-looks g c =
    let tracer = c.args.self.now in
    let same : OnlyLooked tracer.seat.now c.word_of-value.new.seat = looked tracer.seat.now c.is_marked.new.seat c.word_of-key.new.seat c.names_marked.new.seat c.word_of-value.new.seat c.is_marked.ensures.view
    c.word_of-key.ensures.view c.names_marked.ensures.view c.word_of-value.ensures.view in
    let has : BodyHasPair tracer.types.now tracer.seat.now.bodies c.args.holder c.args.word = c.requires.pair in
    let is_key : c.word_of-key.result ≡ word_at has.0 c.args.word = c.word_of-key.ensures.word has.0 (rw (ap (λ (u : SeatView). u.bodies) c.is_marked.ensures.view) has.1) has.2 in
    let is_value : c.word_of-value.result ≡ word_at has.0 (c.args.word + 1) = c.word_of-value.ensures.word has.0
    (rw (ap (λ (u : SeatView). u.bodies) c.names_marked.ensures.view, c.word_of-key.ensures.view, ap (λ (u : SeatView). u.bodies) c.is_marked.ensures.view) has.1) has.2 in
    let key = marked_key tracer.seat.now c.word_of-key.result c.names_marked.result
    (key_reference tracer.types.now tracer.seat.now.bodies c.args.holder c.args.word c.word_of-key.result c.requires.ready.ground.references has is_key)
    (rw (c.word_of-key.ensures.view, ap (λ (u : SeatView). u.marked) c.is_marked.ensures.view) at c.names_marked.ensures.named) c.names_marked.ensures.null c.if-not-names_marked.false in
    let within : GrowsWithin tracer.types.now tracer.seat.now c.mark_reference.new.seat =
    pair_within tracer.types.now tracer.seat.now c.mark_reference.new.seat has.0 c.args.word key.0 has.1
    (subst (λ p. holds tracer.seat.now.marked p ≡ true) (sym has.2) (sym c.is_marked.ensures.mark ∙ c.if-not-is_marked.false)) has.3 (sym is_key ∙ key.1) key.2
    (λ p marked. elim (c.mark_reference.ensures.only p marked) [
      | inl old ↦ inl (ap (λ (u : SeatView). holds u.marked p) (sym same) ∙ old)
      | inr is ↦ inr (sym is_value ∙ is)
    ]) in
    let here = c.word_of-value.new.seat in
    Looks-then tracer.types.now None _ (stage here tracer.marking.now tracer.groups.now tracer.traced) _ false c.mark_reference.result
    (looks_none tracer.seat.now here same tracer.types.now tracer.marking.now tracer.groups.now tracer.traced)
    (record {
      works = marks_work tracer.types.now here c.mark_reference.new.seat tracer.marking.now c.mark_reference.new.marking tracer.groups.now tracer.traced
          c.mark_reference.ensures.marks (grows_from here tracer.seat.now (sym same) tracer.types.now c.mark_reference.new.seat within);
      lighter = λ found. marks_lighter here c.mark_reference.new.seat tracer.marking.now c.mark_reference.new.marking tracer.groups.now tracer.traced
          c.mark_reference.ensures.marks (c.mark_reference.ensures.found found);
      still = λ none. marks_still here c.mark_reference.new.seat tracer.marking.now c.mark_reference.new.marking tracer.groups.now tracer.traced
          (c.mark_reference.ensures.still none);
    })

pub returns-clause-settled : goal.returns-clause-settled
returns-clause-settled g c told =
    let tracer = c.args.self.now in
    let bodies : c.mark_reference.new.seat.bodies ≡ tracer.seat.now.bodies =
    same_bodies c.word_of-value.new.seat c.mark_reference.new.seat tracer.marking.now c.mark_reference.new.marking c.mark_reference.ensures.marks
    ∙ ap (λ (v : SeatView). v.bodies) (looked tracer.seat.now c.is_marked.new.seat c.word_of-key.new.seat c.names_marked.new.seat c.word_of-value.new.seat c.is_marked.ensures.view
    c.word_of-key.ensures.view c.names_marked.ensures.view c.word_of-value.ensures.view) in
    pair_settled tracer.types.now c.mark_reference.new.seat c.args.holder c.args.word
    (subst (λ bs. BodyHasPair tracer.types.now bs c.args.holder c.args.word) (sym bodies) c.requires.pair)
    (λ b k w there at key value holder_marked key_marked.
    (let before : Contains tracer.seat.now.bodies b = subst (λ bs. Contains bs b) bodies there in
    let is_value : c.word_of-value.result ≡ word_at b (c.args.word + 1) = c.word_of-value.ensures.word b
    (rw (ap (λ (u : SeatView). u.bodies) c.names_marked.ensures.view, c.word_of-key.ensures.view, ap (λ (u : SeatView). u.bodies) c.is_marked.ensures.view) before) at in
    c.mark_reference.ensures.target w (is_value ∙ value)))

-- ---- what was looked at

-- the holder, and then the key
both_looked : (types : List ObjectType) (v first key second w : SeatView) (holder offset word : ℕ) → (has : BodyHasPair types v.bodies holder offset)
    → first.looked ≡ v.looked ++ holder ∷ [] → key ≡ first → LooksOnlyAt (λ p. word ≡ reference_to p) key second → word ≡ word_at has.0 offset
    → w.looked ≡ second.looked → w.bodies ≡ v.bodies → holds w.marked holder ≡ true → LooksWithin types v w
both_looked types v first key second w holder offset word has one same two is later bodies marked =
    let key_so : (p : ℕ) → word ≡ reference_to p → IsLookedAt types w p = λ p names. inr (record {
      holder = has.0;
      there = subst (λ bs. Contains bs has.0) (sym bodies) has.1;
      marked = subst (λ q. holds w.marked q ≡ true) (sym has.2) marked;
      offset = offset;
      pair = has.3;
      key = sym is ∙ names;
    }) in
    looked_then (IsLookedAt types w) v first w (looked_once (IsLookedAt types w) v first holder one (inl marked))
    (looked_then (IsLookedAt types w) first second w
    (subst (λ (x : SeatView). LooksOnlyAt (IsLookedAt types w) x second) same (looked_as (λ p. word ≡ reference_to p) (IsLookedAt types w) key second key_so two))
    (looked_nowhere (IsLookedAt types w) second w later))

pub returns-then-not-is_marked-clause-looked : goal.returns-then-not-is_marked-clause-looked
returns-then-not-is_marked-clause-looked g c here =
    let tracer = c.args.self.now in
    let v = tracer.seat.now in
    let u = c.is_marked.new.seat in
    let marked : u.marked ≡ v.marked = ap (λ (x : SeatView). x.marked) c.is_marked.ensures.view in
    onward_looked tracer.types.now v u tracer.marking.now tracer.groups.now tracer.traced tracer.traced marked
    (looked_once (IsLookedAt tracer.types.now u) v u c.args.holder c.is_marked.ensures.looked
    (inl (subst (λ l. holds l c.args.holder ≡ true) (sym marked) here)))

pub returns-then-not-names_marked-clause-looked : goal.returns-then-not-names_marked-clause-looked
returns-then-not-names_marked-clause-looked g c here =
    let tracer = c.args.self.now in
    let v = tracer.seat.now in
    let w = c.names_marked.new.seat in
    let same : OnlyLooked v w = c.names_marked.ensures.view ∙ ap unlooked c.word_of-key.ensures.view ∙ c.is_marked.ensures.view in
    let has : BodyHasPair tracer.types.now v.bodies c.args.holder c.args.word = c.requires.pair in
    let is_key : c.word_of-key.result ≡ word_at has.0 c.args.word = c.word_of-key.ensures.word has.0 (rw (ap (λ (u : SeatView). u.bodies) c.is_marked.ensures.view) has.1) has.2 in
    let marked : w.marked ≡ v.marked = ap (λ (x : SeatView). x.marked) same in
    onward_looked tracer.types.now v w tracer.marking.now tracer.groups.now tracer.traced tracer.traced marked
    (both_looked tracer.types.now v c.is_marked.new.seat c.word_of-key.new.seat w w c.args.holder c.args.word c.word_of-key.result has
    c.is_marked.ensures.looked c.word_of-key.ensures.view c.names_marked.ensures.looked is_key refl (ap (λ (x : SeatView). x.bodies) same)
    (subst (λ l. holds l c.args.holder ≡ true) (sym marked) here))

pub returns-clause-looked : goal.returns-clause-looked
returns-clause-looked g c here =
    let tracer = c.args.self.now in
    let v = tracer.seat.now in
    let u = c.word_of-value.new.seat in
    let w = c.mark_reference.new.seat in
    let same : OnlyLooked v u = looked tracer.seat.now c.is_marked.new.seat c.word_of-key.new.seat c.names_marked.new.seat c.word_of-value.new.seat
    c.is_marked.ensures.view c.word_of-key.ensures.view c.names_marked.ensures.view c.word_of-value.ensures.view in
    let has : BodyHasPair tracer.types.now v.bodies c.args.holder c.args.word = c.requires.pair in
    let is_key : c.word_of-key.result ≡ word_at has.0 c.args.word = c.word_of-key.ensures.word has.0 (rw (ap (λ (u : SeatView). u.bodies) c.is_marked.ensures.view) has.1) has.2 in
    let marked : u.marked ≡ v.marked = ap (λ (x : SeatView). x.marked) same in
    let bodies : w.bodies ≡ v.bodies =
    same_bodies u w tracer.marking.now c.mark_reference.new.marking c.mark_reference.ensures.marks ∙ ap (λ (x : SeatView). x.bodies) same in
    onward_marks tracer.types.now v u w tracer.marking.now c.mark_reference.new.marking tracer.groups.now tracer.groups.now tracer.traced tracer.traced marked
    c.mark_reference.ensures.marks c.args.holder (λ note there. inl there) here
    (both_looked tracer.types.now v c.is_marked.new.seat c.word_of-key.new.seat c.names_marked.new.seat w c.args.holder c.args.word c.word_of-key.result has
    c.is_marked.ensures.looked c.word_of-key.ensures.view c.names_marked.ensures.looked is_key
    (c.mark_reference.ensures.looked ∙ ap (λ (x : SeatView). x.looked) c.word_of-value.ensures.view) bodies
    (c.mark_reference.ensures.marks.marked c.args.holder (subst (λ l. holds l c.args.holder ≡ true) (sym marked) here)))
