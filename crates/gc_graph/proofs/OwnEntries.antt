-- The owner's entry comes last in what its command takes of the history.
use Rattle.std.proofs.Common.{◌≡◌, ◌≢◌, ℕ, zero, suc, Bool, true, false, true≢false, List, [], ◌∷◌, ◌++◌, Some, refl, sym, ap, ◌∙◌, subst, inl, inr, arith, Contains, All}
use mathlib.Core.Logic.{◌⊎◌}
use Rattle.std.specs.Option.{MatchOption}
use Rattle.std.proofs.lemmas.List.Elements.{All-weaker}
use Rattle.gc_graph.specs.declared.command.Command.{Command}
use Rattle.gc_graph.specs.declared.command.Command.TheVariants as C
use Rattle.gc_graph.specs.declared.command.Want.{Want}
use Rattle.gc_graph.specs.declared.line.Line.{Line}
use Rattle.gc_graph.specs.declared.line.Line.TheVariants as L
use Rattle.gc_graph.specs.declared.line.Refusal.TheVariants as R
use Rattle.gc_graph.specs.declared.region.Entry.{Entry}
use Rattle.gc_graph.specs.declared.region.Op.{Op}
use Rattle.gc_graph.specs.declared.region.Op.TheVariants as O
use Rattle.gc_graph.specs.State.{Setup, State}
use Rattle.gc_graph.specs.Outcomes.{AreOthers, IsThreadOp, IsRefused, owner_entry, took, slot_at}
use Rattle.gc_graph.specs.CycleSteps.{WantsMemory, IsPause, is_marking, is_stack_refused, StepGcStart, StepGcFinish, StepGcNow}
use Rattle.gc_graph.specs.RegionSteps.{IsExported, StepExport, StepImport}
use Rattle.gc_graph.specs.Step.{Step}
use Rattle.gc_graph.specs.JoinLaw.{AreThreads}
use Rattle.gc_graph.specs.OwnEntryLaw.{IsOfThread, EndsWithOwn, EndsWithPause, StepsMakeOwnEntries}
use Rattle.gc_graph.specs.Commands.{may_take}
use Rattle.gc_graph.proofs.StepCases.{match_bool}
use Rattle.gc_graph.proofs.FamilyFrames.{swept_runs, start_runs}

-- a line that is alone is the one that is there
alone : (line other : Line) (lines : List Line) → lines ≡ line ∷ [] → Contains lines other → line ≡ other
alone line other lines is c = at (subst (λ ls. Contains ls other) is c)
  where
    at : Contains (line ∷ []) other → line ≡ other
    at (zero, low, e) = e
    at (suc i, low, e) = absurd (omega (arith, low))

-- whether a line is a refusal or tells that memory was wanting
abbrev IsUndone : Line → Bool
IsUndone (L.Refused why) = true
IsUndone L.Memory = true
IsUndone other = false

undone : (Q : Type 0) (line other : Line) (lines : List Line) → IsUndone line ≡ true → IsUndone other ≡ false → lines ≡ line ∷ [] → Contains lines other → Q
undone Q line other lines on off is c = absurd (true≢false (sym on ∙ ap IsUndone (alone line other lines is c) ∙ off))

module _ (running : List ℕ) (threads : AreThreads running) where
  of_threads : (s : State) (before : List Entry) → s.running ≡ running → AreOthers s before → All IsOfThread before
  of_threads s before same others =
      All-weaker (λ (entry : Entry). Contains s.running entry.thread × IsThreadOp entry.op) IsOfThread
      (λ entry h zeroth. (let low = (threads.each entry.thread (subst (λ js. Contains js entry.thread) same h.0)).0 in omega (arith, low, zeroth)))
      before others

  own : (s : State) (op : Op) (before piece : List Entry) → s.running ≡ running → AreOthers s before
      → piece ≡ before ++ owner_entry (took s before) op ∷ [] → EndsWithOwn op piece
  own s op before piece same others e = record {
    before = before;
    own = owner_entry (took s before) op;
    entries_are = e;
    owner = refl;
    does = refl;
    others = of_threads s before same others;
  }

  paused : (setup : Setup) (markers : ℕ) (want : Want) (old new : State) (piece : List Entry) (lines : List Line) → old.running ≡ running
      → IsPause setup markers want old piece lines new → EndsWithPause piece
  paused setup markers want old new piece lines same pause = (_, own old _ pause.before piece same pause.others pause.piece_is)

  exported : (old new : State) (p x n : ℕ) (piece : List Entry) (lines : List Line) → old.running ≡ running → StepExport old p x piece lines new
      → slot_at old p ≡ Some n → lines ≡ L.Fine ∷ [] → EndsWithOwn (O.Export x n) piece
  exported old new p x n piece lines same h slot fine =
      elim (subst (λ o. MatchOption o ((piece ≡ []) × IsRefused R.Null old lines new) (λ m. WantsMemory old piece lines new ⊎ IsExported old m x piece lines new)) slot h) [
        | inl memory ↦ undone _ L.Memory L.Fine lines refl refl memory.1.0 (subst (λ ls. Contains ls L.Fine) (sym fine) (0, omega arith, refl))
        | inr e ↦ own old (O.Export x n) e.before piece same e.takes.others e.takes.piece_is
      ]

  imported : (old new : State) (x p : ℕ) (piece : List Entry) (lines : List Line) → old.running ≡ running → StepImport old x p piece lines new
      → lines ≢ L.Memory ∷ [] → EndsWithOwn (O.Import x) piece
  imported old new x p piece lines same h some = elim h [
    | inl memory ↦ absurd (some memory.1.0)
    | inr i ↦ own old (O.Import x) i.before piece same i.takes.others i.takes.piece_is
  ]

  started : (setup : Setup) (old new : State) (piece : List Entry) (lines : List Line) → old.running ≡ running → StepGcStart setup old piece lines new
      → Contains lines L.Started → EndsWithOwn O.Start piece
  started setup old new piece lines same h c =
      match_bool (is_marking old.phase) _ _ _ (λ r. undone _ (L.Refused R.Phase) L.Started lines refl refl r.1.0 c)
      (λ rest. elim rest [
        | inl memory ↦ undone _ L.Memory L.Started lines refl refl memory.1.0 c
        | inr b ↦
            own b.swept O.Start b.start.before piece (swept_runs setup.shape old b.swept setup.shape.pages b.numbers b.ended ∙ same) b.start.others
            b.start.piece_is
      ]) h

  finished : (setup : Setup) (want : Want) (old new : State) (piece : List Entry) (lines : List Line) (told : Line) → old.running ≡ running
      → StepGcFinish setup want old piece lines new → IsUndone told ≡ false → Contains lines told → EndsWithPause piece
  finished setup want old new piece lines told same h off c =
      match_bool (is_marking old.phase) _ _ _
      (λ rest. match_bool (is_stack_refused want old.stack) _ _ _ (λ r. undone _ (L.Refused R.Stack) told lines refl off r.1.0 c)
      (λ f. paused setup setup.markers want old f.0 piece lines same f.1) rest)
      (λ r. undone _ (L.Refused R.Phase) told lines refl off r.1.0 c) h

  abbrev StartsAndPauses : List Entry → Type 0
  StartsAndPauses piece = (first : List Entry) × (second : List Entry) × (piece ≡ first ++ second) × EndsWithOwn O.Start first × EndsWithPause second

  collected : (setup : Setup) (want : Want) (old new : State) (piece : List Entry) (lines : List Line) (told : Line) → old.running ≡ running
      → StepGcNow setup want old piece lines new → IsUndone told ≡ false → Contains lines told → StartsAndPauses piece
  collected setup want old new piece lines told same h off c =
      match_bool (is_marking old.phase) _ _ _ (λ r. undone _ (L.Refused R.Phase) told lines refl off r.1.0 c)
      (λ rest. match_bool (is_stack_refused want old.stack) _ _ _ (λ r. undone _ (L.Refused R.Stack) told lines refl off r.1.0 c)
      (λ more. elim more [
        | inl memory ↦ undone _ L.Memory told lines refl off memory.1.0 c
        | inr k ↦
            (let swept : k.swept.running ≡ running = swept_runs setup.shape old k.swept setup.shape.pages k.numbers k.ended ∙ same in
            let begun : k.started.running ≡ running = start_runs setup k.swept k.started k.first k.start ∙ swept in (
              k.first,
              k.second,
              k.piece_is,
              own k.swept O.Start k.start.before k.first swept k.start.others k.start.piece_is,
              paused setup 0 want k.started k.paused k.second k.pause_lines begun k.pause,
            ))
      ]) rest) h

-- ---- the commands that take nothing

takes_none : (setup : Setup) (old new : State) (command : Command) (piece : List Entry) (lines : List Line) → may_take command ≡ false
    → Step setup old command piece lines new → piece ≡ []
takes_none setup old new C.GcStart piece lines none h = absurd (true≢false none)
takes_none setup old new (C.GcFinish want) piece lines none h = absurd (true≢false none)
takes_none setup old new (C.GcNow want) piece lines none h = absurd (true≢false none)
takes_none setup old new (C.Export p x) piece lines none h = absurd (true≢false none)
takes_none setup old new (C.Import x p) piece lines none h = absurd (true≢false none)
takes_none setup old new C.ThreadsJoin piece lines none h = absurd (true≢false none)
takes_none setup old new command piece lines none h = h.0

pub steps_make_own_entries : StepsMakeOwnEntries
steps_make_own_entries setup old new piece lines threads = record {
  exports = λ p x n h slot fine. exported old.running threads old new p x n piece lines refl h slot fine;
  imports = λ x p h some. imported old.running threads old new x p piece lines refl h some;
  starts = λ h c. started old.running threads setup old new piece lines refl h c;
  finishes = λ want live dead crew traced walked h c.
      finished old.running threads setup want old new piece lines (L.Pause live dead crew traced walked) refl h refl c;
  collects = λ want live dead crew traced walked h c.
      collected old.running threads setup want old new piece lines (L.Pause live dead crew traced walked) refl h refl c;
  joins = λ h. of_threads old.running threads old piece refl h.others;
  none = λ command none h. takes_none setup old new command piece lines none h;
}
