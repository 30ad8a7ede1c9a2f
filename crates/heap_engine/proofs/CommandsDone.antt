-- From what a function says of its line to what is owed of the command that it does.
use Rattle.std.proofs.Common.{arith, inl, inr, ◌≡◌, ℕ, ◌<◌, true, false, List, [], ◌∷◌, length, Some, All, refl, sym, ap, ◌∙◌, subst}
use Rattle.std.proofs.Math.Seq.{take-length}
use Rattle.std.proofs.lemmas.Bool.{true≢false}
use Rattle.std.proofs.lemmas.List.Elements.{All-nil}
use Rattle.std.specs.List.{Contains}
use Rattle.gc_graph.specs.declared.command.Command.{Command}
use Rattle.gc_graph.specs.declared.command.Command.TheVariants as C
use Rattle.gc_graph.specs.declared.line.Line.{Line}
use Rattle.gc_graph.specs.declared.line.Line.TheVariants as L
use Rattle.gc_graph.specs.HistoryLaw.{StepsFollow}
use Rattle.gc_graph.specs.Lawful.{IsAllowed}
use Rattle.gc_graph.specs.OnceLaw.{NodesStayPut}
use Rattle.gc_graph.specs.Outcomes.{answered}
use Rattle.gc_graph.specs.Step.{Step}
use Rattle.gc_graph.specs.ThreadLaw.{is_of_threads}
use Rattle.heap_cycle.specs.Calls.{TakesMore}
use Rattle.heap_cycle.specs.Cycles.{AreSlotsMarked}
use Rattle.heap_cycle.specs.declared.parts.Parts.{Parts}
use Rattle.heap_cycle.specs.Handles.{HandlesView}
use Rattle.heap_cycle.specs.Owned.{OwnedView, IsToldLine, piece_of}
use Rattle.heap_cycle.specs.Parts.{AreTied, counted, setup_of, state_of, IsFrame, IsReady}
use Rattle.heap_cycle.specs.Printed.{Printed, lines_with, TellsThoseThatRan}
use Rattle.heap_cycle.specs.Region.{HasRegion}
use Rattle.thread_queues.specs.Falling.{none_falls}
use Rattle.heap_engine.specs.CarriedOut.{LeavesBoard, IsAsked, IsCarriedOut, IsCommandDone, IsDoneAlone, LeavesRegion, TellsNothing, leaves_region}
use Rattle.heap_engine.specs.declared.heap_core.Core.TheInside.{Inside}
use Rattle.heap_engine.specs.Ended.{last_line, IsEnded}
use Rattle.heap_engine.specs.Sound.{IsSound}
use Rattle.heap_engine.proofs.OutcomeLines.{ended_alone}
use Rattle.heap_engine.proofs.RegionAlone.{none_made, region_alone}

-- it is no step of a cycle
abbrev pub IsNoStep : Command → Type 0
IsNoStep command = (n : ℕ) → command ≡ C.GcStep n → ⊥

-- ---- the outcome

-- a line has ended it
pub line_ends : (before o : Printed) (line : Line) → o ≡ record before { last = Some line } → IsEnded o
line_ends before o line is = subst IsEnded (sym is) refl

pub last_is : (before o : Printed) (line : Line) → o ≡ record before { last = Some line } → last_line o ≡ line
last_is before o line is = ap last_line is

module _ (command : Command) (s new : Parts) (before o : Printed) (line : Line) (is : o ≡ record before { last = Some line }) where
  -- a command that answers one line, and leaves the region alone
  pub line_done : TellsNothing before → Step (setup_of s) (state_of s) command [] (line ∷ []) (answered (state_of new))
      → IsFrame s (counted new) line → new.region ≡ s.region → leaves_region command ≡ true → IsNoStep command → IsDoneAlone command s new before o
  line_done nothing step frame region alone other = record {
    alone = alone;
    ended = line_ends before o line is;
    step = subst (λ ls. Step (setup_of s) (state_of s) command [] ls (answered (state_of new)))
        (sym (ended_alone before o new.cycle.ran line is nothing.numbers nothing.calm)) step;
    frame = subst (IsFrame s (counted new)) (sym (last_is before o line is)) frame;
    region = region;
    ran = λ runs. absurd (true≢false (sym runs ∙ (ap (λ (p : Printed). p.calls_back) is ∙ nothing.calm)));
    done = λ n t step told. absurd (other n step);
    took = λ n step some. absurd (other n step);
    room = ap (λ (p : Printed). p.room) is;
  }

  -- the same, where it tells what it finalises before
  pub lines_done : (begun : Printed) → before.calls_back ≡ false → before.room ≡ begun.room → Step (setup_of s) (state_of s) command [] (lines_with before new.cycle.ran line) (answered (state_of new))
      → IsFrame s (counted new) line → new.region ≡ s.region → leaves_region command ≡ true → IsNoStep command → IsDoneAlone command s new begun o
  lines_done begun calm room step frame region alone other = record {
    alone = alone;
    ended = line_ends before o line is;
    step = rw is step;
    frame = subst (IsFrame s (counted new)) (sym (last_is before o line is)) frame;
    region = region;
    ran = λ runs. absurd (true≢false (sym runs ∙ (ap (λ (p : Printed). p.calls_back) is ∙ calm)));
    done = λ n t step told. absurd (other n step);
    took = λ n step some. absurd (other n step);
    room = ap (λ (p : Printed). p.room) is ∙ room;
  }

-- a command that answers `ok`, and changes the handles alone
pub handles_done : (command : Command) (s : Parts) (before o : Printed) (handles changed : HandlesView) → o ≡ record before { last = Some L.Fine } → TellsNothing before
    → handles ≡ changed → AreTied (counted (record s { handles = changed }))
    → Step (setup_of s) (state_of s) command [] (L.Fine ∷ []) (answered (state_of (record s { handles = changed }))) → leaves_region command ≡ true → IsNoStep command
    → IsDoneAlone command s (record s { handles = handles }) before o
handles_done command s before o handles changed is nothing same tied step alone other =
    let frame : IsFrame s (counted (record s { handles = changed })) L.Fine = record {
      setup = refl;
      ordinal = refl;
      tied = tied;
      manned = λ manned. manned;
      refused = record { since = refl; still = λ calm. refl };
    } in
    subst (λ (h : HandlesView). IsDoneAlone command s (record s { handles = h }) before o) (sym same)
    (line_done command s (record s { handles = changed }) before o L.Fine is nothing step frame refl alone other)

-- ---- the region

-- a command other than `threads go` leaves what was published
still_posted : (command : Command) (old new : OwnedView) → is_of_threads command ≡ false → new.last ≡ old.last → new.since ≡ old.since
    → LeavesBoard command old new
still_posted C.ThreadsGo old new other last since = absurd (true≢false other)
still_posted _ old new other last since = (last, since)

alone_calm : (command : Command) → leaves_region command ≡ true → is_of_threads command ≡ false
alone_calm (C.At j order) is = absurd (true≢false (sym is))
alone_calm C.ThreadsGo is = absurd (true≢false (sym is))
alone_calm C.ThreadsJoin is = absurd (true≢false (sym is))
alone_calm _ is = refl

pub none_there : (lines : List Line) (told : Line) → lines ≡ [] → Contains lines told → ⊥
none_there lines told none there = (let w : Contains [] told = subst (λ ls. Contains ls told) none there in omega (arith, w.1))

pub none_in : (lines : List Line) (P : Line → Type 0) → lines ≡ [] → All P lines
none_in lines P none = subst (All P) (sym none) (All-nil P)

-- what a command leaves that took entries of the history, or none, and is none on threads
pub leaves_more : (command : Command) (s new : Parts) (o begun : Printed) → is_of_threads command ≡ false → IsAsked s begun → HasRegion new → TakesMore s.region new.region
    → LeavesRegion command s new o
leaves_more command s new o begun other asked region more =
    let told : new.region.told ≡ [] = ap (λ (v : OwnedView). v.told) more.rest ∙ asked.quiet in
    record {
      region = region;
      begins = more.begins;
      none_out = λ still. ap (λ (v : OwnedView). v.out) more.rest ∙ asked.none_out (sym (ap (λ (v : OwnedView). v.awaiting) more.rest) ∙ still);
      board = still_posted command s.region new.region other (ap (λ (v : OwnedView). v.last) more.rest) (ap (λ (v : OwnedView). v.since) more.rest);
      replies = none_in new.region.told IsToldLine told;
      joined = inl told;
      of_join = λ join. absurd (true≢false (ap is_of_threads (sym join) ∙ other));
      totals = λ j a n u f there. absurd (none_there new.region.told (L.ReplyTotals j a n u f) told there);
      fall = none_falls new.region.told (λ j a n u f there. none_there new.region.told (L.ReplyTotals j a n u f) told there);
    }

-- a region that is as it was takes nothing
pub takes_none : (old new : OwnedView) → new ≡ old → TakesMore old new
takes_none old new same = subst (TakesMore old) (sym same) (record { begins = take-length old.taken; rest = refl })

-- a command that leaves the region alone was carried out
pub alone_done : (command : Command) (s new : Parts) (begun o : Printed) → StepsFollow → NodesStayPut → 0 < s.objects.shape.pages
    → IsAllowed (length s.objects.types) command → IsAsked s begun → IsDoneAlone command s new begun o → IsCarriedOut command s new begun o
alone_done command s new begun o follow stay some allowed asked done =
    let told : new.region.told ≡ [] = ap (λ (v : OwnedView). v.told) done.region ∙ asked.quiet in
    let none : piece_of s.region new.region ≡ [] = ap (λ (v : OwnedView). piece_of s.region v) done.region ∙ none_made s.region.taken in
    record {
      ended = done.ended;
      step = rw (none, told) done.step;
      frame = done.frame;
      region = leaves_more command s new o begun (alone_calm command done.alone) asked
          (region_alone s new command _ follow stay some allowed asked.ready asked.region done.region done.step) (takes_none s.region new.region done.region);
      ran = done.ran;
      marked = λ start told. absurd (true≢false (sym done.alone ∙ ap leaves_region start));
      done = done.done;
      took = done.took;
      room = done.room;
    }

-- a command that took what it found, and entries of its own, or nothing
pub taking_done : (command : Command) (s new : Parts) (begun before o : Printed) (line : Line) (lines : List Line) → o ≡ record before { last = Some line }
    → lines_with before new.cycle.ran line ≡ lines → is_of_threads command ≡ false → IsNoStep command → IsAsked s begun → HasRegion new → TakesMore s.region new.region
    → Step (setup_of s) (state_of s) command (piece_of s.region new.region) lines (answered (state_of new)) → IsFrame s (counted new) line → TellsThoseThatRan before new.cycle.ran
    → before.room ≡ begun.room → (command ≡ C.GcStart → line ≡ L.Started → AreSlotsMarked new new.region.taken) → IsCarriedOut command s new begun o
taking_done command s new begun before o line lines is told other no_step asked region more step frame ran room marked =
    let quiet : new.region.told ≡ [] = ap (λ (v : OwnedView). v.told) more.rest ∙ asked.quiet in
    record {
      ended = line_ends before o line is;
      step = rw (quiet, is, told) step;
      frame = subst (IsFrame s (counted new)) (sym (last_is before o line is)) frame;
      region = leaves_more command s new o begun other asked region more;
      ran = rw is ran;
      marked = λ start last. marked start (sym (last_is before o line is) ∙ last);
      done = λ n t step told. absurd (no_step n step);
      took = λ n step some. absurd (no_step n step);
      room = ap (λ (p : Printed). p.room) is ∙ room;
    }

-- ---- what a heap between commands asks

-- once the last command tells nothing more, and the outcome has begun, a command may be done
pub asked_of : (h : Inside) (quiet : OwnedView) (begun : Printed) → IsSound h → h.closed ≡ false → quiet ≡ record h.parts.region { told = [] }
    → begun ≡ record h.outcome { numbers = []; calls_back = false } → IsAsked (record h.parts { region = quiet }) begun
asked_of h quiet begun sound opened is empty =
    let region : HasRegion h.parts = sound.region opened in
    subst (λ (v : OwnedView). IsAsked (record h.parts { region = v }) begun) (sym is) (record {
      ready = still_ready h.parts (sound.ready opened);
      region = record { opened = region.opened; placed = region.placed; started = region.started };
      quiet = refl;
      none_out = sound.none_out;
      counted = sound.counted;
      nothing = record { numbers = ap (λ (o : Printed). o.numbers) empty; calm = ap (λ (o : Printed). o.calls_back) empty };
      room = omega (arith, sound.room, ap (λ (o : Printed). o.room) empty);
    })
  where
    still_ready : (s : Parts) → IsReady s → IsReady (record s { region = record s.region { told = [] } })
    still_ready s ready = record {
      valid = ready.valid;
      called = ready.called;
      tied = record {
        slots = ready.tied.slots;
        weak = ready.tied.weak;
        stack = ready.tied.stack;
        registered = ready.tied.registered;
        weakly = ready.tied.weakly;
        sweep = ready.tied.sweep;
        marks = ready.tied.marks;
        traced = ready.tied.traced;
        made = ready.tied.made;
      };
    }

-- the parts as a command finds them: the last one tells nothing more
abbrev pub quiet : Parts → Parts
quiet s = record s { region = record s.region { told = [] } }

-- what was done was carried out
pub carried_out : (command : Command) (h : Inside) (found : OwnedView) (begun : Printed) (new : Parts) (o : Printed) → StepsFollow → NodesStayPut
    → 0 < h.parts.objects.shape.pages → IsAllowed (length h.parts.objects.types) command → IsSound h → h.closed ≡ false
    → found ≡ record h.parts.region { told = [] } → begun ≡ record h.outcome { numbers = []; calls_back = false }
    → IsCommandDone command (record h.parts { region = found }) new begun o → IsCarriedOut command (quiet h.parts) new begun o
carried_out command h found begun new o follow stay some allowed sound opened is empty done =
    elim (subst (λ (v : OwnedView). IsCommandDone command (record h.parts { region = v }) new begun o) is done) [
      | inl alone ↦ alone_done command (quiet h.parts) new begun o follow stay some allowed (asked_of h (record h.parts.region { told = [] }) begun sound opened refl empty) alone
      | inr carried ↦ carried
    ]
