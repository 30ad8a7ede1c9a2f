-- Stages that follow one another.
use Rattle.std.proofs.Common.{◌≡◌, ℕ, ◌≤◌, true, List, length, Option, Some, None, refl, sym, ap, ap₂, ◌∙◌, subst, inl, inr, arith}
use Rattle.gc_graph.specs.State.{ObjectType}
use Rattle.mark_worklist.specs.Lists.{IsOneMore, ListState}
use Rattle.mark_worklist.specs.OneMore.{one_longer, is_there, still_there, was_there}
use Rattle.mark_worklist.specs.Refusals.{Refusals}
use Rattle.mark_worklist.specs.declared.marking.Marking.{Marking}
use Rattle.marker_core.specs.Bodies.{IsPlace}
use Rattle.page_words.specs.Seat.{SeatView}
use Rattle.pair_notes.specs.BodyGraph.{PlacesDiffer}
use Rattle.pair_notes.specs.Marking.{MarksOn}
use Rattle.pair_notes.specs.Notes.{group_at, refusals_in}
use Rattle.ephemerons.specs.Fixpoint.{Mode, Stage, mode_of, weight, IsGround, Works}
use Rattle.ephemerons.proofs.Graph.{GrowsWithin-then}
use Rattle.mark_worklist.specs.Told.{told_same, told_then, told_from}

-- ---- the mode

pub mode_is : (m n : Marking) → n.on ≡ m.on → n.list.whole ≡ m.list.whole → length n.list.shares ≡ length m.list.shares → mode_of n ≡ mode_of m
mode_is m n on whole shares =
    ap (λ b. record { on = b; whole = n.list.whole; shares = length n.list.shares }) on
    ∙ ap₂ (λ b k. record { on = m.on; whole = b; shares = k }) whole shares

-- a pop from a whole list leaves it
pub mode_popped : (m : Marking) (list : ListState) → m.list.whole ≡ true → list.whole ≡ true → length list.shares ≡ length m.list.shares
    → mode_of (record m { list = list }) ≡ mode_of m
mode_popped m list before after shares = mode_is m (record m { list = list }) refl (after ∙ sym before) shares

-- ---- one stage after another

pub MarksOn-same : (v : SeatView) → MarksOn v v
MarksOn-same v = record {
  heap = refl;
  types = refl;
  on = refl;
  bodies = refl;
  filled = refl;
  dead = refl;
  may = refl;
  lent = refl;
  marked = λ p h. h;
  traced = λ p h. h;
}

pub MarksOn-then : (a b c : SeatView) → MarksOn a b → MarksOn b c → MarksOn a c
MarksOn-then a b c x y = record {
  heap = y.heap ∙ x.heap;
  types = y.types ∙ x.types;
  on = y.on ∙ x.on;
  bodies = y.bodies ∙ x.bodies;
  filled = y.filled ∙ x.filled;
  dead = y.dead ∙ x.dead;
  may = y.may ∙ x.may;
  lent = y.lent ∙ x.lent;
  marked = λ p h. y.marked p (x.marked p h);
  traced = λ p h. y.traced p (x.traced p h);
}

pub Works-same : (types : List ObjectType) (s : Stage) → Works types None s s
Works-same types s = record {
  kept = MarksOn-same s.view;
  within = λ test closed held p marked. held p marked;
  mode = refl;
  unrefused = λ h. h;
  told = told_same s.refusals;
  notes_told = λ i. told_same (refusals_in (group_at s.groups i));
  many = refl;
  noted = λ note h. h;
  accounted = λ fine h. h;
  lighter = omega arith;
  fewer = omega arith;
  counted = λ differ. refl;
}

pub Works-then : (types : List ObjectType) (taken : Option ℕ) (a b c : Stage) → Works types taken a b → Works types None b c → Works types taken a c
Works-then types taken a b c x y = record {
  kept = MarksOn-then a.view b.view c.view x.kept y.kept;
  within = GrowsWithin-then types a.view b.view c.view x.kept.bodies x.within y.within;
  mode = y.mode ∙ x.mode;
  unrefused = λ fine. x.unrefused (y.unrefused fine);
  told = told_then a.refusals b.refusals c.refusals x.told y.told;
  notes_told = λ i. told_then (refusals_in (group_at a.groups i)) (refusals_in (group_at b.groups i)) (refusals_in (group_at c.groups i))
      (x.notes_told i) (y.notes_told i);
  many = y.many ∙ x.many;
  noted = λ note h. y.noted note (x.noted note h);
  accounted = λ fine h. y.accounted fine (x.accounted (y.unrefused fine) h);
  lighter = omega (arith, x.lighter, y.lighter);
  fewer = omega (arith, x.fewer, y.fewer);
  counted = λ differ. omega (arith, x.counted differ, y.counted (subst PlacesDiffer (sym x.kept.bodies) differ));
}

none_taken : (q : ℕ) → None ≡ Some q → ⊥
none_taken q is = cc

-- no object that was taken is one fewer to account for
pub Works-free : (types : List ObjectType) (p : ℕ) (a b : Stage) → Works types (Some p) a b → Works types None a b
Works-free types p a b x = record {
  kept = x.kept;
  within = x.within;
  mode = x.mode;
  unrefused = x.unrefused;
  told = x.told;
  notes_told = x.notes_told;
  many = x.many;
  noted = x.noted;
  accounted = λ fine h. x.accounted fine (record {
    grey = λ q marked untraced. elim (h.grey q marked untraced) [ inl never ↦ absurd (none_taken q never) | inr known ↦ inr known ];
    pairs = h.pairs;
  });
  lighter = x.lighter;
  fewer = x.fewer;
  counted = x.counted;
}

pub popped_lighter : (s t : Stage) (list : List ℕ) (a : ℕ) → IsOneMore list a s.list → weight t ≤ weight (record s { list = list }) → weight t ≤ weight s
popped_lighter s t list a one less = omega (arith, less, one_longer list s.list a one)

-- the ground stays where an object is taken from the list, and it is an object's place
pub ground_popped : (types : List ObjectType) (s : Stage) (list : List ℕ) (a : ℕ) (refusals : Refusals) (mode : Mode) → IsOneMore list a s.list → mode ≡ s.mode
    → IsGround types s → IsGround types (record s { mode = mode; list = list; refusals = refusals }) × IsPlace s.view.bodies a
ground_popped types s list a refusals mode one same ground = (
  record {
    on = ground.on;
    told = ap (λ (o : Mode). o.on) same ∙ ground.told;
    whole = ap (λ (o : Mode). o.whole) same ∙ ground.whole;
    known = ground.known;
    alone = ground.alone;
    references = ground.references;
    traced_name_marked = ground.traced_name_marked;
    listed = λ p h. ground.listed p (still_there list s.list a one p h);
    noted = ground.noted;
    own = ground.own;
    few = ground.few;
  },
  ground.listed a (is_there list s.list a one),
)

-- the object that was taken is one that was listed
pub Works-popped : (types : List ObjectType) (s t : Stage) (list : List ℕ) (a count : ℕ) (mode : Mode) → IsOneMore list a s.list → count ≡ s.refusals.count
    → mode ≡ s.mode → Works types (Some a) (record s { mode = mode; list = list; refusals = record { told = s.refusals.told; count = count } }) t → Works types None s t
Works-popped types s t list a count mode one same still x = record {
  kept = x.kept;
  within = x.within;
  mode = x.mode ∙ still;
  unrefused = x.unrefused;
  told = told_from s.refusals t.refusals count same x.told;
  notes_told = x.notes_told;
  many = x.many;
  noted = x.noted;
  accounted = λ fine h. x.accounted fine (record {
    grey = λ p marked untraced. elim (h.grey p marked untraced) [
      | inl never ↦ absurd (none_taken p never)
      | inr known ↦ elim known [
        | inl listed ↦ elim (was_there list s.list a one p listed) [
          | inl still ↦ inr (inl still)
          | inr here ↦ inl (ap Some here)
        ]
        | inr noted ↦ inr (inr noted)
      ]
    ];
    pairs = h.pairs;
  });
  lighter = popped_lighter s t list a one x.lighter;
  fewer = x.fewer;
  counted = x.counted;
}
