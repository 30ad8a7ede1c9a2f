-- Looks that follow one another, and what they leave as it is.
use Rattle.std.proofs.Common.{◌≡◌, ℕ, ◌+◌, ◌<◌, Bool, true, false, ◌||◌, List, length, Option, Some, None, refl, sym, ap, ◌∙◌, subst, inl, inr, arith}
use mathlib.Core.Logic.{◌⊎◌}
use Rattle.std.specs.List.{Contains}
use Rattle.std.proofs.lemmas.Bool.{true≢false, cases_eq, or_cases}
use Rattle.gc_graph.specs.State.{ObjectType}
use Rattle.marker_core.specs.Bodies.{IsPlace}
use Rattle.page_words.specs.Seat.{SeatView, IsAlone}
use Rattle.pair_notes.specs.declared.notes.Note.{Note}
use Rattle.pair_notes.specs.Marking.{heap_and_marks, MarksOn}
use Rattle.pair_notes.specs.Notes.{group_at, note_at, note_of}
use Rattle.ephemerons.specs.Fixpoint.{Stage, IsGround, NoteIsSettled, IsSettledAt, Works, Looks, without_looks}
use Rattle.ephemerons.proofs.Stages.{Works-then, Works-free}

-- nothing was found by either
pub neither : (f g : Bool) → (f || g) ≡ false → (f ≡ false) × (g ≡ false)
neither true g none = absurd (true≢false none)
neither false g none = (refl, none)

-- a choice that was made in two branches
pub joined : (f g h : Bool) → ((f ≡ true) × (h ≡ f)) ⊎ ((f ≡ false) × (h ≡ g)) → h ≡ (f || g)
joined f g h either = elim either [
  | inl first ↦ first.1 ∙ first.0 ∙ sym (ap (λ b. b || g) first.0)
  | inr second ↦ second.1 ∙ sym (ap (λ b. b || g) second.0)
]

pub Looks-then : (types : List ObjectType) (taken : Option ℕ) (a b c : Stage) (f g : Bool) → Looks types taken a b f → Looks types None b c g
    → Looks types taken a c (f || g)
Looks-then types taken a b c f g x y = record {
  works = Works-then types taken a b c x.works y.works;
  lighter = λ found. elim (or_cases f g found) [
    | inl first ↦ (let less = x.lighter first in let no_more = y.works.lighter in omega arith)
    | inr second ↦ (let less = y.lighter second in let no_more = x.works.lighter in omega arith)
  ];
  still = λ none. y.still (neither f g none).1 ∙ x.still (neither f g none).0;
}

pub Looks-free : (types : List ObjectType) (p : ℕ) (a b : Stage) (f : Bool) → Looks types (Some p) a b f → Looks types None a b f
Looks-free types p a b f x = record { works = Works-free types p a b x.works; lighter = x.lighter; still = x.still }

-- what was looked at before stays settled where nothing was found, and one more is
pub looks_more : (P : Stage → ℕ → Type 0) → ((s t : Stage) → without_looks t ≡ without_looks s → (k : ℕ) → P s k → P t k) → (a b : Stage) (f g : Bool) (j : ℕ)
    → (f ≡ false → (k : ℕ) → k < j → P a k) → (g ≡ false → without_looks b ≡ without_looks a) → (g ≡ false → P b j) → (f || g) ≡ false
    → (k : ℕ) → k < j + 1 → P b k
looks_more P stays a b f g j before still here none k low =
    let parts = neither f g none in
    elim (cases_eq k j) [
      | inl same ↦ subst (P b) (sym same) (here parts.1)
      | inr other ↦ stays a b (still parts.1) k (before parts.0 k (omega (arith, low)))
    ]

-- and so does a note, since looks settle nothing and unsettle nothing
pub settled_stays : (types : List ObjectType) (s t : Stage) → without_looks t ≡ without_looks s → (note : Note) → NoteIsSettled types s.view note
    → NoteIsSettled types t.view note
settled_stays types s t same note x =
    let before : NoteIsSettled types (heap_and_marks s.view) note = record { traced = x.traced; value = x.value } in
    let after : NoteIsSettled types (heap_and_marks t.view) note =
    subst (λ (v : SeatView). NoteIsSettled types v note) (sym (ap (λ (z : Stage). z.view) same)) before in
    record { traced = after.traced; value = after.value }

-- with its number in its group
pub noted_stays : (types : List ObjectType) (i : ℕ) (s t : Stage) → without_looks t ≡ without_looks s → (k : ℕ)
    → (k < length (group_at s.groups i).notes → NoteIsSettled types s.view (note_at (group_at s.groups i) k)) → k < length (group_at t.groups i).notes
    → NoteIsSettled types t.view (note_at (group_at t.groups i) k)
noted_stays types i s t same k settled low =
    let groups : t.groups ≡ s.groups = ap (λ (z : Stage). z.groups) same in
    settled_stays types s t same (note_at (group_at t.groups i) k)
    (subst (λ gs. NoteIsSettled types s.view (note_at (group_at gs i) k)) (sym groups) (settled (subst (λ gs. k < length (group_at gs i).notes) groups low)))

-- and all notes of a group
pub group_stays : (types : List ObjectType) (s t : Stage) → without_looks t ≡ without_looks s → (k : ℕ)
    → ((note : Note) → Contains (group_at s.groups k).notes note → NoteIsSettled types s.view note) → (note : Note) → Contains (group_at t.groups k).notes note
    → NoteIsSettled types t.view note
group_stays types s t same k settled note there =
    settled_stays types s t same note (settled note (subst (λ gs. Contains (group_at gs k).notes note) (ap (λ (z : Stage). z.groups) same) there))

-- and what an object and its pairs ask for
pub object_stays : (types : List ObjectType) (s t : Stage) → without_looks t ≡ without_looks s → (p : ℕ)
    → (IsPlace s.view.bodies p → IsSettledAt types s.view p) → IsPlace t.view.bodies p → IsSettledAt types t.view p
object_stays types s t same p settled place offset =
    settled_stays types s t same (note_of p offset) (settled (subst (λ bs. IsPlace bs p) (ap (λ (z : Stage). z.view.bodies) same) place) offset)

-- ---- objects were only looked at

-- what holds stays
pub looked_ground : (types : List ObjectType) (s t : Stage) → without_looks t ≡ without_looks s → IsAlone t.view → IsGround types s → IsGround types t
looked_ground types s t same alone ground =
    let first : IsGround types (without_looks s) = record {
      on = ground.on;
      told = ground.told;
      whole = ground.whole;
      known = ground.known;
      alone = record { no_hand = refl; no_pending = refl; none_lent = ground.alone.none_lent };
      references = ground.references;
      traced_name_marked = ground.traced_name_marked;
      listed = ground.listed;
      noted = ground.noted;
      own = ground.own;
      few = ground.few;
    } in
    let last : IsGround types (without_looks t) = subst (IsGround types) (sym same) first in
    record {
      on = last.on;
      told = last.told;
      whole = last.whole;
      known = last.known;
      alone = alone;
      references = last.references;
      traced_name_marked = last.traced_name_marked;
      listed = last.listed;
      noted = last.noted;
      own = last.own;
      few = last.few;
    }

-- more may be marked than before, looks apart
kept_apart : (u v : SeatView) → MarksOn u v → MarksOn u (heap_and_marks v)
kept_apart u v x = record {
  heap = x.heap;
  types = x.types;
  on = x.on;
  bodies = x.bodies;
  filled = x.filled;
  dead = x.dead;
  may = x.may;
  lent = x.lent;
  marked = x.marked;
  traced = x.traced;
}

kept_with : (u v : SeatView) → MarksOn u (heap_and_marks v) → MarksOn u v
kept_with u v x = record {
  heap = x.heap;
  types = x.types;
  on = x.on;
  bodies = x.bodies;
  filled = x.filled;
  dead = x.dead;
  may = x.may;
  lent = x.lent;
  marked = x.marked;
  traced = x.traced;
}

-- and work goes on without looks, and with them
works_apart : (types : List ObjectType) (taken : Option ℕ) (s t : Stage) → Works types taken s t → Works types taken s (without_looks t)
works_apart types taken s t x = record {
  kept = kept_apart s.view t.view x.kept;
  within = x.within;
  mode = x.mode;
  unrefused = x.unrefused;
  told = x.told;
  notes_told = x.notes_told;
  many = x.many;
  noted = x.noted;
  accounted = λ fine h. (let known = x.accounted fine h in record { grey = known.grey; pairs = known.pairs });
  lighter = x.lighter;
  fewer = x.fewer;
  counted = x.counted;
}

works_with : (types : List ObjectType) (taken : Option ℕ) (s t : Stage) → Works types taken s (without_looks t) → Works types taken s t
works_with types taken s t x = record {
  kept = kept_with s.view t.view x.kept;
  within = x.within;
  mode = x.mode;
  unrefused = x.unrefused;
  told = x.told;
  notes_told = x.notes_told;
  many = x.many;
  noted = x.noted;
  accounted = λ fine h. (let known = x.accounted fine h in record { grey = known.grey; pairs = known.pairs });
  lighter = x.lighter;
  fewer = x.fewer;
  counted = x.counted;
}

pub looked_works : (types : List ObjectType) (taken : Option ℕ) (s t : Stage) → without_looks t ≡ without_looks s → Works types taken s s → Works types taken s t
looked_works types taken s t same x = works_with types taken s t (subst (Works types taken s) (sym same) (works_apart types taken s s x))
