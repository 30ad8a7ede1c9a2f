use Rattle.std.proofs.Common.{◌≡◌, ℕ, ◌<◌, List, None, length, get_or, set, sym, ap, ◌∙◌, subst}
use Rattle.std.specs.Prelude.{slice_set}
use Rattle.std.specs.List.{Contains}
use Rattle.std.proofs.lemmas.List.{set-get_or, get_or_default}
use Rattle.gc_graph.specs.State.{ObjectType}
use Rattle.page_words.specs.Seat.{SeatView}
use Rattle.mark_worklist.specs.declared.marking.Marking.{Marking}
use Rattle.pair_notes.specs.declared.notes.Note.{Note}
use Rattle.pair_notes.specs.Notes.{NotesState, IsNote, group_at, no_notes}
use Rattle.ephemerons.specs.LookedAt.{LooksOnward}
use Rattle.ephemerons.proofs.Tracers.{Keeps-then, Advances-then, GoesOnward-then}
use Rattle.ephemerons.specs.Fixpoint.{IsGround, Works, stage}
use Rattle.ephemerons.specs.Tracers.{stage_of}
use Rattle.ephemerons.proofs.OnlyLooks.{ground_looked, looks_none}
use Rattle.ephemerons.proofs.Stages.{Works-then}
use Rattle.ephemerons.proofs.tracer.Tracer.settle_chain.Goals as goal

-- the group that was brought into its index stands where it was
regrouped : (groups : List NotesState) (i : ℕ) (g new : NotesState) → new ≡ get_or groups i g → set groups i new ≡ groups
regrouped groups i g new same = ap (set groups i) same ∙ set-get_or groups i g

pub settle_at-requires-clause-ready : goal.settle_at-requires-clause-ready
settle_at-requires-clause-ready g c =
    let tracer = c.args.self.now in
    let groups : slice_set tracer.groups.now c.args.i c.index_notes.new.self ≡ tracer.groups.now =
    regrouped tracer.groups.now c.args.i c.index-self-i.result c.index_notes.new.self c.index_notes.ensures.notes in
    record {
      heap = ap (λ (v : SeatView). v.heap) c.index_notes.ensures.view ∙ c.requires.ready.heap;
      ground = subst (λ gs. IsGround tracer.types.now (stage c.index_notes.new.seat tracer.marking.now gs tracer.traced)) (sym groups)
          (ground_looked tracer.seat.now c.index_notes.new.seat c.index_notes.ensures.view tracer.types.now tracer.marking.now tracer.groups.now tracer.traced c.requires.ready.ground);
    }

-- the notes are of fields, whose words are no headers
not_looked : (types : List ObjectType) (v w : SeatView) (m : Marking) (groups : List NotesState) (i n : ℕ) (g : NotesState) → i < length groups
    → IsGround types (stage v m groups n) → (((note : Note) → Contains (get_or groups i g).notes note → IsNote v.types v.bodies note) → w ≡ v) → w ≡ v
not_looked types v w m groups i n g low ground beside =
    let group : get_or groups i g ≡ group_at groups i = get_or_default groups i g no_notes low in
    beside (λ note there.
    subst (λ (ts : List ObjectType). IsNote ts v.bodies note) (sym ground.known)
    (ground.noted note (i, low, subst (λ (s : NotesState). Contains s.notes note) group there)))

pub loop-j-init : goal.loop-j-init
loop-j-init g c =
    let tracer = c.args.self.now in
    let groups : slice_set tracer.groups.now c.args.i c.index_notes.new.self ≡ tracer.groups.now =
    regrouped tracer.groups.now c.args.i c.index-self-i.result c.index_notes.new.self c.index_notes.ensures.notes in
    let keeps = c.settle_at.ensures.keeps in
    let types = tracer.types.now in
    let now = stage_of c.settle_at.new.self in
    let mid = stage c.index_notes.new.seat tracer.marking.now tracer.groups.now tracer.traced in
    record {
      keeps = record {
        space = keeps.space;
        types = keeps.types;
        seat = keeps.seat;
        marking = keeps.marking;
        groups = keeps.groups;
        ready = keeps.ready;
      };
      looked = subst (λ (v : SeatView). LooksOnward types (stage v tracer.marking.now tracer.groups.now tracer.traced) now)
          (not_looked types tracer.seat.now c.index_notes.new.seat tracer.marking.now tracer.groups.now c.args.i tracer.traced c.index-self-i.result
          c.requires.group c.requires.ready.ground c.index_notes.ensures.beside)
          (subst (λ gs. LooksOnward types (stage c.index_notes.new.seat tracer.marking.now gs tracer.traced) now) groups c.settle_at.ensures.looked);
      works = Works-then types None _ mid now
          (looks_none tracer.seat.now c.index_notes.new.seat c.index_notes.ensures.view types tracer.marking.now tracer.groups.now tracer.traced).works
          (subst (λ gs. Works types None (stage c.index_notes.new.seat tracer.marking.now gs tracer.traced) now) groups c.settle_at.ensures.looks.works);
    }

pub loop-j-preserved : goal.loop-j-preserved
loop-j-preserved g c =
    let tracer = c.args.self.now in
    record {
      keeps = Keeps-then tracer c.loop-j.self c.settle_at-in-loop-j.new.self c.loop-j.invariant.keeps c.settle_at-in-loop-j.ensures.keeps;
      works = Advances-then tracer c.loop-j.self c.settle_at-in-loop-j.new.self c.loop-j.invariant.keeps c.loop-j.invariant.works c.settle_at-in-loop-j.ensures.looks.works;
      looked = GoesOnward-then tracer c.loop-j.self c.settle_at-in-loop-j.new.self c.loop-j.invariant.keeps c.settle_at-in-loop-j.ensures.looks.works c.loop-j.invariant.looked c.settle_at-in-loop-j.ensures.looked;
    }
