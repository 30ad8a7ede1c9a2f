-- Each step is a refusal, a want of memory, or has something else to say.
use Rattle.std.proofs.Common.{◌≡◌, ℕ, length, map, Bool, true, false, List, [], ◌∷◌, ◌++◌, Option, Some, None, refl, sym, ap, ◌∙◌, inl, inr, append_assoc}
use mathlib.Core.Logic.{◌⊎◌}
use Rattle.std.specs.List.{flat_map}
use Rattle.gc_graph.specs.declared.command.Command.{Command}
use Rattle.gc_graph.specs.declared.command.Command.TheVariants as C
use Rattle.gc_graph.specs.declared.command.Want.{Want}
use Rattle.gc_graph.specs.declared.line.Line.{Line}
use Rattle.gc_graph.specs.declared.line.Line.TheVariants as L
use Rattle.gc_graph.specs.declared.line.Refusal.{Refusal}
use Rattle.gc_graph.specs.declared.line.Refusal.TheVariants as R
use Rattle.gc_graph.specs.declared.region.Entry.{Entry}
use Rattle.gc_graph.specs.State.{Setup, State}
use Rattle.gc_graph.specs.History.{node_of, region_slot}
use Rattle.gc_graph.specs.Outcomes.{answered, IsRefused, IsMemory, finalise_lines, took, slot_at}
use Rattle.gc_graph.specs.ObjectSteps.{StepNew}
use Rattle.gc_graph.specs.CycleSteps.{is_marking, is_sweeping, is_stack_refused, StepGcStart, StepGcFinish, StepGcNow, StepSweepTo}
use Rattle.gc_graph.specs.RegionSteps.{Answer, reply_line, line_of_content, StepExport, StepImport, StepThreadsJoin}
use Rattle.gc_graph.specs.RegionSteps.Answer.{Replied, Told}
use Rattle.gc_graph.specs.RefusalLaw.{RefusedLeavesAll, MemoryLeavesAll, IsLeftAlone, told_to_go}
use Rattle.gc_graph.specs.Commands.{MayWantMemory}
use Rattle.gc_graph.specs.Step.{Step}
use Rattle.gc_graph.proofs.StepCases.{match_option, match_bool}
use Rattle.gc_graph.proofs.Effects.{Effect, line_of_effect, with_effect}
use Rattle.gc_graph.proofs.Effects.Effect.{Refuses as Refusing}
use Rattle.gc_graph.proofs.PlainSteps.{plain_step}

-- a line that is no refusal and no want of memory
abbrev says : Line → Bool
says (L.Refused why) = false
says L.Memory = false
says told = true

abbrev begins : List Line → Bool
begins [] = false
begins (told ∷ lines) = says told

record Refuses (old : State) (piece : List Entry) (lines : List Line) (new : State) : Type 0 where
  why : Refusal
  line : lines ≡ L.Refused why ∷ []
  taken : piece ≡ []
  after : new ≡ answered old

record Wants (setup : Setup) (command : Command) (old : State) (piece : List Entry) (lines : List Line) (new : State) : Type 0 where
  line : lines ≡ L.Memory ∷ []
  left : IsLeftAlone setup command old piece new

abbrev Kinds : Setup → Command → State → List Entry → List Line → State → Type 0
Kinds setup command old piece lines new = Refuses old piece lines new ⊎ (Wants setup command old piece lines new ⊎ (begins lines ≡ true))

module _ (setup : Setup) (command : Command) (old new : State) (piece : List Entry) (lines : List Line) where
  spoken : (told : Line) (rest : List Line) → says told ≡ true → lines ≡ told ∷ rest → Kinds setup command old piece lines new
  spoken told rest s e = inr (inr (ap begins e ∙ s))

  after_finalised : (numbers : List ℕ) (told : Line) (rest : List Line) → says told ≡ true → lines ≡ finalise_lines numbers ++ told ∷ rest
      → Kinds setup command old piece lines new
  after_finalised [] told rest s e = spoken told rest s e
  after_finalised (n ∷ numbers) told rest s e = spoken (L.Finalise n) (finalise_lines numbers ++ told ∷ rest) refl e

  refused : (why : Refusal) → piece ≡ [] → IsRefused why old lines new → Kinds setup command old piece lines new
  refused why p h = inl (record { why = why; line = h.0; taken = p; after = h.1 })

  memory : MayWantMemory setup command → told_to_go command old ≡ old → piece ≡ [] → IsMemory old lines new → Kinds setup command old piece lines new
  memory may still p h = inr (inl (record { line = h.0; left = record { wanted = may; taken = p; after = h.1 ∙ ap answered (sym still) } }))

  -- a plain command
  effect_kinds : (effect : Effect) → piece ≡ [] → lines ≡ line_of_effect effect ∷ [] → new ≡ answered (with_effect old effect)
      → Kinds setup command old piece lines new
  effect_kinds (Refusing why) none is after = refused why none (is, after)
  effect_kinds effect none is after = spoken (line_of_effect effect) [] refl is

  sweep_at : (pages : ℕ) → piece ≡ [] → StepSweepTo setup old pages lines new → Kinds setup command old piece lines new
  sweep_at pages none h =
      match_bool (is_sweeping old.phase) _ _ (Kinds setup command old piece lines new)
      (λ s. after_finalised s.numbers (L.Swept pages) [] refl s.lines_are) (λ r. refused R.Phase none r) h

  content : (o : Option ℕ) → lines ≡ line_of_content o ∷ [] → Kinds setup command old piece lines new
  content None e = spoken L.Null [] refl e
  content (Some n) e = spoken (L.Node n) [] refl e

  -- the lines of a join
  replies : (j : ℕ) (answers : List Answer) (rest : List Line) → begins rest ≡ true → begins (map (reply_line j) answers ++ rest) ≡ true
  replies j [] rest b = b
  replies j (Replied r ∷ answers) rest b = refl
  replies j (Told o n u f ∷ answers) rest b = refl

  all_replies : (answers : ℕ → List Answer) (js : List ℕ) (rest : List Line) → begins rest ≡ true
      → begins (flat_map (λ j. map (reply_line j) (answers j)) js ++ rest) ≡ true
  all_replies answers [] rest b = b
  all_replies answers (j ∷ js) rest b = rw append_assoc (replies j (answers j) _ (all_replies answers js rest b))

  entries : (es : List Entry) (m : ℕ) → begins (map (λ entry. L.Entry entry) es ++ L.Joined m ∷ []) ≡ true
  entries [] m = refl
  entries (e ∷ es) m = refl

new_kinds : (setup : Setup) (old new : State) (p t e : ℕ) (piece : List Entry) (lines : List Line) → piece ≡ [] → StepNew setup old p t e lines new
    → Kinds setup (C.New p t e) old piece lines new
new_kinds setup old new p t e piece lines none h = elim h [
  | inl m ↦ memory setup (C.New p t e) old new piece lines m.0 refl none m.1
  | inr made ↦
      match_option made.place _ _ _
      (λ full. after_finalised setup (C.New p t e) old new piece lines made.numbers L.Full [] refl full.lines_are)
      (λ a done. after_finalised setup (C.New p t e) old new piece lines made.numbers (L.Placed (length made.mid.nodes) a) [] refl done.lines_are)
      made.done
]

start_kinds : (setup : Setup) (old new : State) (piece : List Entry) (lines : List Line) → StepGcStart setup old piece lines new
    → Kinds setup C.GcStart old piece lines new
start_kinds setup old new piece lines h =
    match_bool (is_marking old.phase) _ _ _ (λ r. refused setup C.GcStart old new piece lines R.Phase r.0 r.1)
    (λ rest. elim rest [
      | inl m ↦ memory setup C.GcStart old new piece lines tt refl m.0 m.1
      | inr b ↦ after_finalised setup C.GcStart old new piece lines b.numbers L.Started [] refl b.lines_are
    ]) h

finish_kinds : (setup : Setup) (want : Want) (old new : State) (piece : List Entry) (lines : List Line) → StepGcFinish setup want old piece lines new
    → Kinds setup (C.GcFinish want) old piece lines new
finish_kinds setup want old new piece lines h =
    match_bool (is_marking old.phase) _ _ _
    (λ rest. match_bool (is_stack_refused want old.stack) _ _ _ (λ r. refused setup (C.GcFinish want) old new piece lines R.Stack r.0 r.1)
    (λ f. spoken setup (C.GcFinish want) old new piece lines _ _ refl f.1.done.lines_are) rest)
    (λ r. refused setup (C.GcFinish want) old new piece lines R.Phase r.0 r.1) h

now_kinds : (setup : Setup) (want : Want) (old new : State) (piece : List Entry) (lines : List Line) → StepGcNow setup want old piece lines new
    → Kinds setup (C.GcNow want) old piece lines new
now_kinds setup want old new piece lines h =
    match_bool (is_marking old.phase) _ _ _ (λ r. refused setup (C.GcNow want) old new piece lines R.Phase r.0 r.1)
    (λ rest. match_bool (is_stack_refused want old.stack) _ _ _ (λ r. refused setup (C.GcNow want) old new piece lines R.Stack r.0 r.1)
    (λ more. elim more [
      | inl m ↦ memory setup (C.GcNow want) old new piece lines tt refl m.0 m.1
      | inr c ↦
          after_finalised setup (C.GcNow want) old new piece lines c.numbers _ _ refl
          (c.lines_are ∙ ap (λ ls. finalise_lines c.numbers ++ ls) c.pause.done.lines_are)
    ]) rest) h

export_kinds : (setup : Setup) (old new : State) (p x : ℕ) (piece : List Entry) (lines : List Line) → StepExport old p x piece lines new
    → Kinds setup (C.Export p x) old piece lines new
export_kinds setup old new p x piece lines h =
    match_option (slot_at old p) _ _ _ (λ r. refused setup (C.Export p x) old new piece lines R.Null r.0 r.1)
    (λ n done. elim done [
      | inl m ↦ memory setup (C.Export p x) old new piece lines tt refl m.0 m.1
      | inr e ↦ spoken setup (C.Export p x) old new piece lines L.Fine [] refl e.lines_are
    ]) h

import_kinds : (setup : Setup) (old new : State) (x p : ℕ) (piece : List Entry) (lines : List Line) → StepImport old x p piece lines new
    → Kinds setup (C.Import x p) old piece lines new
import_kinds setup old new x p piece lines h = elim h [
  | inl m ↦ memory setup (C.Import x p) old new piece lines tt refl m.0 m.1
  | inr i ↦ content setup (C.Import x p) old new piece lines (node_of (region_slot (took old i.before).region x)) i.lines_are
]

join_kinds : (setup : Setup) (old new : State) (piece : List Entry) (lines : List Line) → StepThreadsJoin old piece lines new
    → Kinds setup C.ThreadsJoin old piece lines new
join_kinds setup old new piece lines h =
    inr (inr (ap begins h.lines_are
    ∙ rw append_assoc (all_replies setup C.ThreadsJoin old new piece lines h.answers old.running _ (entries setup C.ThreadsJoin old new piece lines (took old piece).unprinted (length old.running)))))

-- ---- every command

step_kinds : (setup : Setup) (old new : State) (command : Command) (piece : List Entry) (lines : List Line) → Step setup old command piece lines new
    → Kinds setup command old piece lines new
step_kinds setup old new (C.New p t e) piece lines h = new_kinds setup old new p t e piece lines h.0 h.1
step_kinds setup old new C.GcStart piece lines h = start_kinds setup old new piece lines h
step_kinds setup old new (C.GcStep n) piece lines h =
    match_bool (is_marking old.phase) _ _ _ (λ t. spoken setup (C.GcStep n) old new piece lines _ [] refl t.lines_are)
    (λ r. refused setup (C.GcStep n) old new piece lines R.Phase h.0 r) h.1
step_kinds setup old new (C.GcFinish want) piece lines h = finish_kinds setup want old new piece lines h
step_kinds setup old new (C.GcNow want) piece lines h = now_kinds setup want old new piece lines h
step_kinds setup old new (C.Sweep n) piece lines h = sweep_at setup _ old new piece lines _ h.0 h.1
step_kinds setup old new C.SweepAll piece lines h = sweep_at setup _ old new piece lines _ h.0 h.1
step_kinds setup old new C.Stat piece lines h = spoken setup _ old new piece lines _ [] refl h.1.2
step_kinds setup old new (C.Export p x) piece lines h = export_kinds setup old new p x piece lines h
step_kinds setup old new (C.Import x p) piece lines h = import_kinds setup old new x p piece lines h
step_kinds setup old new (C.At j order) piece lines h = elim h.1 [
  | inl m ↦ memory setup (C.At j order) old new piece lines tt refl h.0 m
  | inr d ↦ spoken setup (C.At j order) old new piece lines L.Queued [] refl d.0
]
step_kinds setup old new C.ThreadsGo piece lines h = elim h.1 [
  | inl d ↦ inr (inl (record { line = d.0; left = record { wanted = tt; taken = h.0; after = d.1 } }))
  | inr d ↦ spoken setup C.ThreadsGo old new piece lines _ [] refl d.0
]
step_kinds setup old new C.ThreadsJoin piece lines h = join_kinds setup old new piece lines h
step_kinds setup old new command piece lines h =
    let c = plain_step setup old new command piece lines refl h in effect_kinds setup command old new piece lines c.effect c.none c.lines_are c.after

pub refused_leaves_all : RefusedLeavesAll
refused_leaves_all setup old new command piece lines why step e = elim (step_kinds setup old new command piece lines step) [
  | inl r ↦ (r.taken, r.after)
  | inr rest ↦ elim rest [
    | inl w ↦ (let q = w.line in absurd cc)
    | inr b ↦ (let q : begins lines ≡ false = ap begins e in absurd cc)
  ]
]

pub memory_leaves_all : MemoryLeavesAll
memory_leaves_all setup old new command piece lines step e = elim (step_kinds setup old new command piece lines step) [
  | inl r ↦ (let q = r.line in absurd cc)
  | inr rest ↦ elim rest [
    | inl w ↦ w.left
    | inr b ↦ (let q : begins lines ≡ false = ap begins e in absurd cc)
  ]
]
