-- Who is registered, which callbacks a pause runs, and what each of them meets.
use Rattle.std.proofs.Common.{◌≡◌, List, [], ◌∷◌, ◌++◌, length, map, filter, reverse, not, refl, sym, ap, ◌∙◌, inl, inr}
use Rattle.gc_graph.specs.declared.line.Line.{Line}
use Rattle.gc_graph.specs.declared.line.Line.TheVariants as L
use Rattle.gc_graph.specs.State.{Setup, State, Node, Registration, node_at, type_at, is_dead}
use Rattle.gc_graph.specs.Actions.{shown_words, action_of, acted}
use Rattle.gc_graph.specs.Pause.{clear_fields, dies, kind_of_callback, run_order, prefinalised, prefinalise_lines}
use Rattle.gc_graph.specs.WeakCalls.{WeakCall, weak_calls, called}
use Rattle.gc_graph.specs.Paused.{callback_lines}
use Rattle.gc_graph.specs.PrefinalizerLaw.{NewObjectsAreRegistered, tells_prefinalizer, is_of_the_dead, last_first, RunsThoseOfTheDead, PausesRunThoseOfTheDead, CallbacksMeetWhatIsLeft}
use Rattle.gc_graph.proofs.PauseRuns.{IsRun, passing, pause_runs}
use Rattle.gc_graph.proofs.StepCases.{match_option}
use Rattle.gc_graph.proofs.StepFrames.{Keeps, keeps_sweep}
use Rattle.gc_graph.proofs.NewLaws.{no_place, told_last}

-- ---- a new object

pub new_objects_are_registered : NewObjectsAreRegistered
new_objects_are_registered setup old new p t e n a piece lines h c = elim h.1 [
  | inl m ↦ absurd (no_place L.Memory n a refl (told_last [] lines L.Memory n a m.1.0 c))
  | inr made ↦
      match_option made.place _ _ _ (λ full. absurd (no_place L.Full n a refl (told_last made.numbers lines L.Full n a full.lines_are c)))
      (λ b done.
      let line : L.Placed (length made.mid.nodes) b ≡ L.Placed n a =
      told_last made.numbers lines (L.Placed (length made.mid.nodes) b) n a done.lines_are c in
      let number : length made.mid.nodes ≡ n = cc in
      let kept : Keeps old made.mid = keeps_sweep setup.shape old made.mid made.placed.pages made.numbers made.placed.swept in
      ap (λ (s : State). s.registrations) done.after
      ∙ ap (λ k. made.mid.registrations ++ map (λ c. record { node = k; callback = c }) (type_at setup t).prefinalizers) number
      ∙ ap (λ rs. rs ++ map (λ c. record { node = n; callback = c }) (type_at setup t).prefinalizers) kept.registrations) made.done
]

-- ---- a pause

all_of_run : (calls : List WeakCall) (registrations : List Registration)
    → filter tells_prefinalizer (callback_lines calls registrations) ≡ prefinalise_lines registrations
all_of_run [] [] = refl
all_of_run [] (r ∷ registrations) = ap (λ ls. L.Prefinalise r.node r.callback ∷ ls) (all_of_run [] registrations)
all_of_run (c ∷ calls) registrations = all_of_run calls registrations

-- the lines of the prefinalizers that ran
pub prefinalizers_told : (setup : Setup) (old : State) (lines : List Line) (new : State) → (h : IsRun setup old lines new)
    → filter tells_prefinalizer lines ≡ prefinalise_lines (run_order h.judged_nodes old.registrations)
prefinalizers_told setup old lines new h =
    passing tells_prefinalizer (λ n. refl) h.numbers h.line lines _ h.no_last h.lines_are
    ∙ all_of_run (weak_calls setup.types h.judged_nodes) (run_order h.judged_nodes old.registrations)

those_of_the_dead : (setup : Setup) (old : State) (lines : List Line) (new : State) → IsRun setup old lines new → RunsThoseOfTheDead setup old lines new
those_of_the_dead setup old lines new h =
    let nodes : List Node = h.judged_nodes in
    let dead : dies nodes ≡ is_of_the_dead new.nodes = (λ i. λ r. ap is_dead (sym (h.lives r.node)) i) in
    let order : run_order nodes old.registrations ≡ last_first new.nodes old.registrations = ap (λ test. reverse (filter test old.registrations)) dead in
    record {
      told = prefinalizers_told setup old lines new h ∙ ap prefinalise_lines order;
      judged_nodes = nodes;
      objects = h.objects;
      lives = h.lives;
      ran =
          h.ran ∙ ap (λ rs. prefinalised setup.callbacks rs (called setup.callbacks (weak_calls setup.types nodes) (clear_fields nodes))) order;
      left = h.left ∙ ap (λ test. filter (λ r. not (test r)) old.registrations) dead;
    }

pub pauses_run_those_of_the_dead : PausesRunThoseOfTheDead
pauses_run_those_of_the_dead setup old new want piece lines kept dead crew traced walked valid step there =
    those_of_the_dead setup old lines new (pause_runs setup old new want piece lines kept dead crew traced walked valid step there)

-- ---- what a callback meets

pub callbacks_meet_what_is_left : CallbacksMeetWhatIsLeft
callbacks_meet_what_is_left callbacks [] r nodes = refl
callbacks_meet_what_is_left callbacks (x ∷ earlier) r nodes =
    callbacks_meet_what_is_left callbacks earlier r
    (acted nodes x.node (action_of (kind_of_callback callbacks x.callback) (shown_words (node_at nodes x.node))))
