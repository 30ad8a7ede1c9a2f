-- Each node is there, or counted as finalised: every step keeps this balance.
use Rattle.std.proofs.Common.{◌≡◌, ℕ, ◌+◌, List, [], ◌∷◌, length, refl, sym, ap, ◌∙◌, inl, inr, arith}
use Rattle.std.proofs.lemmas.List.{length-append}
use Rattle.gc_graph.specs.declared.command.Command.{Command}
use Rattle.gc_graph.specs.declared.command.Command.TheVariants as C
use Rattle.gc_graph.specs.declared.command.Want.{Want}
use Rattle.gc_graph.specs.declared.line.Line.{Line}
use Rattle.gc_graph.specs.declared.region.Entry.{Entry}
use Rattle.gc_graph.specs.State.{Setup, Shape, State, node_at, objects_of}
use Rattle.gc_graph.specs.Fields.{new_node}
use Rattle.gc_graph.specs.Sweep.{SweepsTo}
use Rattle.gc_graph.specs.Outcomes.{took}
use Rattle.gc_graph.specs.Pause.{condemn, run_order}
use Rattle.gc_graph.specs.WeakCalls.{weak_calls}
use Rattle.gc_graph.specs.ObjectSteps.{StepNew}
use Rattle.gc_graph.specs.CycleSteps.{IsStart, IsPause, is_marking, is_sweeping, is_stack_refused, StepGcStart, StepGcFinish, StepGcNow, StepSweepTo}
use Rattle.gc_graph.specs.Step.{Step}
use Rattle.gc_graph.specs.Families.{StaysInFamily}
use Rattle.gc_graph.specs.Commands.{family_of}
use Rattle.gc_graph.proofs.StepCases.{match_option, match_bool}
use Rattle.gc_graph.proofs.FieldWrites.{with_values}
use Rattle.gc_graph.proofs.NodeCounts.{weights, same_count, weights_written, paused_weights, one_more, swept_count}
use Rattle.gc_graph.proofs.Effects.{same_else, nodes_by, ComesOut}
use Rattle.gc_graph.proofs.PlainSteps.{plain_step}
use Rattle.gc_graph.proofs.FamilyFrames.{took_else, steps_stay_in_their_family}

abbrev pub IsBalanced : State → Type 0
IsBalanced s = s.finalised + objects_of s.nodes ≡ length s.nodes

-- what was balanced stays so
abbrev Balances : State → State → Type 0
Balances old new = IsBalanced old → IsBalanced new

weighs : (old new : State) → weights new.nodes ≡ weights old.nodes → new.finalised ≡ old.finalised → Balances old new
weighs old new same gone b = (let counts = same_count old.nodes new.nodes same in omega (arith, b, gone, counts.whole, counts.there))

-- the nodes of x, and its count of finalisations
like : (old x new : State) → new ≡ x → weights x.nodes ≡ weights old.nodes → x.finalised ≡ old.finalised → Balances old new
like old x new e same gone =
    weighs old new (ap (λ (s : State). weights s.nodes) e ∙ same) (ap (λ (s : State). s.finalised) e ∙ gone)

swept : (shape : Shape) (old mid : State) (pages : ℕ) (numbers : List ℕ) → SweepsTo shape old pages numbers mid → Balances old mid
swept shape old mid pages numbers h b = (let count = swept_count shape old mid pages numbers h in count.there ∙ b ∙ sym count.whole)

started : (setup : Setup) (mid new : State) (piece : List Entry) → IsStart setup mid piece new → Balances mid new
started setup mid new piece h =
    like mid _ new h.after (ap (λ (s : State). weights s.nodes) (took_else mid piece)) (ap (λ (s : State). s.finalised) (took_else mid piece))

paused : (setup : Setup) (markers : ℕ) (want : Want) (old new : State) (piece : List Entry) (lines : List Line)
    → IsPause setup markers want old piece lines new → Balances old new
paused setup markers want old new piece lines h =
    let mid : State = took old h.before in
    like old _ new h.done.after
    (paused_weights setup.callbacks (weak_calls setup.types (condemn h.kept mid.nodes)) (run_order (condemn h.kept mid.nodes) mid.registrations) h.kept mid.nodes
    ∙ ap (λ (s : State). weights s.nodes) (took_else old h.before)) (ap (λ (s : State). s.finalised) (took_else old h.before))

-- ---- the commands that make or end a life

made : (setup : Setup) (old new : State) (p t e : ℕ) (lines : List Line) → StepNew setup old p t e lines new → Balances old new
made setup old new p t e lines h = elim h [
  | inl memory ↦ like old _ new memory.1.1 refl refl
  | inr done ↦
      (λ b.
      (let mid = swept setup.shape old done.mid done.placed.pages done.numbers done.placed.swept b in
      match_option done.place _ _ (IsBalanced new) (λ full. like done.mid _ new full.after refl refl mid)
      (λ a placed.
      let nodes = ap (λ (s : State). s.nodes) placed.after in
      let gone : new.finalised ≡ done.mid.finalised = ap (λ (s : State). s.finalised) placed.after in
      let more : objects_of new.nodes ≡ objects_of done.mid.nodes + 1 = ap objects_of nodes ∙ one_more setup done.mid.nodes t e a in
      let long : length new.nodes ≡ length done.mid.nodes + 1 = ap length nodes ∙ length-append done.mid.nodes (new_node setup t e a ∷ []) in
      omega (arith, mid, gone, more, long)) done.done))
]

sweep_to : (setup : Setup) (old new : State) (pages : ℕ) (lines : List Line) → StepSweepTo setup old pages lines new → Balances old new
sweep_to setup old new pages lines h =
    match_bool (is_sweeping old.phase) _ _ (Balances old new)
    (λ s b. like s.swept _ new s.after refl refl (swept setup.shape old s.swept pages s.numbers s.goes b)) (λ r. like old _ new r.1 refl refl) h

gc_start : (setup : Setup) (old new : State) (piece : List Entry) (lines : List Line) → StepGcStart setup old piece lines new → Balances old new
gc_start setup old new piece lines h =
    match_bool (is_marking old.phase) _ _ (Balances old new) (λ r. like old _ new r.1.1 refl refl)
    (λ rest. elim rest [
      | inl memory ↦ like old _ new memory.1.1 refl refl
      | inr s ↦
          (λ b. like s.started _ new s.after refl refl
          (started setup s.swept s.started piece s.start (swept setup.shape old s.swept setup.shape.pages s.numbers s.ended b)))
    ]) h

gc_finish : (setup : Setup) (want : Want) (old new : State) (piece : List Entry) (lines : List Line) → StepGcFinish setup want old piece lines new → Balances old new
gc_finish setup want old new piece lines h =
    match_bool (is_marking old.phase) _ _ (Balances old new)
    (λ rest. match_bool (is_stack_refused want old.stack) _ _ (Balances old new) (λ r. like old _ new r.1.1 refl refl)
    (λ f b. like f.0 _ new f.2 refl refl (paused setup setup.markers want old f.0 piece lines f.1 b)) rest)
    (λ r. like old _ new r.1.1 refl refl) h

gc_now : (setup : Setup) (want : Want) (old new : State) (piece : List Entry) (lines : List Line) → StepGcNow setup want old piece lines new → Balances old new
gc_now setup want old new piece lines h =
    match_bool (is_marking old.phase) _ _ (Balances old new) (λ r. like old _ new r.1.1 refl refl)
    (λ rest. match_bool (is_stack_refused want old.stack) _ _ (Balances old new) (λ r. like old _ new r.1.1 refl refl)
    (λ more. elim more [
      | inl memory ↦ like old _ new memory.1.1 refl refl
      | inr c ↦
          (λ b. like c.paused _ new c.after refl refl
          (paused setup 0 want c.started c.paused c.second c.pause_lines c.pause
          (started setup c.swept c.started c.first c.start (swept setup.shape old c.swept setup.shape.pages c.numbers c.ended b))))
    ]) rest) h

-- ---- every command

plain : (old new : State) (command : Command) (piece : List Entry) (lines : List Line) → ComesOut old command piece lines new → Balances old new
plain old new command piece lines c =
    like old _ new c.after
    (nodes_by old (λ nodes. weights nodes ≡ weights old.nodes) refl
    (λ n values size. weights_written old.nodes n (with_values (node_at old.nodes n) values) refl) c.effect)
    (ap (λ (s : State). s.finalised) (same_else old c.effect))

stays : (setup : Setup) (old new : State) (command : Command) (piece : List Entry) (lines : List Line) → Step setup old command piece lines new
    → StaysInFamily (family_of command) old piece lines new
stays setup old new command piece lines h = steps_stay_in_their_family setup old command piece lines new h

pub step_balances : (setup : Setup) (old new : State) (command : Command) (piece : List Entry) (lines : List Line) → Step setup old command piece lines new
    → Balances old new
step_balances setup old new (C.New p t e) piece lines h = made setup old new p t e lines h.1
step_balances setup old new C.GcStart piece lines h = gc_start setup old new piece lines h
step_balances setup old new (C.GcStep n) piece lines h =
    match_bool (is_marking old.phase) _ _ (Balances old new) (λ t. like old _ new t.after refl refl) (λ r. like old _ new r.1 refl refl) h.1
step_balances setup old new (C.GcFinish want) piece lines h = gc_finish setup want old new piece lines h
step_balances setup old new (C.GcNow want) piece lines h = gc_now setup want old new piece lines h
step_balances setup old new (C.Sweep n) piece lines h = sweep_to setup old new _ lines h.1
step_balances setup old new C.SweepAll piece lines h = sweep_to setup old new _ lines h.1
step_balances setup old new C.Stat piece lines h = like old _ new h.1.3 refl refl
step_balances setup old new (C.Export p x) piece lines h = like old _ new (stays setup old new (C.Export p x) piece lines h).rest refl refl
step_balances setup old new (C.Import x p) piece lines h = like old _ new (stays setup old new (C.Import x p) piece lines h).rest refl refl
step_balances setup old new (C.At j order) piece lines h = like old _ new (stays setup old new (C.At j order) piece lines h).rest refl refl
step_balances setup old new C.ThreadsGo piece lines h = like old _ new (stays setup old new C.ThreadsGo piece lines h).rest refl refl
step_balances setup old new C.ThreadsJoin piece lines h = like old _ new (stays setup old new C.ThreadsJoin piece lines h).rest refl refl
step_balances setup old new command piece lines h = plain old new command piece lines (plain_step setup old new command piece lines refl h)
