-- Words, an input and devices with which nothing is wrong: the run is done, or memory was wanting.
use Rattle.std.proofs.Common.{◌≡◌, ◌⊎◌, ℕ, Bool, List, length, Option, None, refl, sym, ap, ◌∙◌, subst, inl, inr}
use Rattle.std.proofs.lemmas.Option.{none-some, same_Some}
use Rattle.gc_graph.specs.declared.action.ActionKind.{ActionKind}
use Rattle.gc_graph.specs.Script.{Script, IsScript}
use Rattle.gc_graph.specs.ScriptLaw.{TextsAreJudged}
use Rattle.heap_engine.specs.View.{View}
use Rattle.command_line.specs.declared.options.Options.{Options}
use Rattle.command_line.specs.Options.{options_asked}
use Rattle.script_run.specs.declared.status.Status.{Status}
use Rattle.script_run.specs.declared.status.Status.TheVariants as S
use Rattle.script_run.specs.Setting.{Plan}
use Rattle.script_run.specs.Headline.{AskForScript, RunsBytes, RunsScript}
use Rattle.script_run.proofs.Inputs.{all_read}
use Rattle.script_run.proofs.Outcomes.{AskInput, Answers}

-- a script is done, or memory was wanting, unless a write failed
pub script_is_done : (kinds : List ActionKind) (summary : Bool) (plan : Plan) (script : Script) (w z : Option (List ℕ)) (kept : Option View) (status : Status)
    → RunsScript kinds summary plan script w z kept status → ¬ (status ≡ S.WriteFault) → (status ≡ S.Done) ⊎ (status ≡ S.NoMemory)
script_is_done kinds summary plan script w z kept S.Done answer never = inl refl
script_is_done kinds summary plan script w z kept S.WriteFault answer never = absurd (never refl)
script_is_done kinds summary plan script w z kept S.NoMemory answer never = inr refl
script_is_done kinds summary plan script w z kept S.TooLong answer never = absurd answer
script_is_done kinds summary plan script w z kept (S.Script line reason) answer never = absurd answer
script_is_done kinds summary plan script w z kept S.ReadFault answer never = absurd answer
script_is_done kinds summary plan script w z kept S.Usage answer never = absurd answer

-- so are bytes that are a script
bytes_are_done : (kinds : List ActionKind) (options : Options) (bytes : List ℕ) (w z : Option (List ℕ)) (kept : Option View) (status : Status)
    → TextsAreJudged → (script : Script) → IsScript (length kinds) bytes script → RunsBytes kinds options bytes w z kept status → ¬ (status ≡ S.WriteFault)
    → (status ≡ S.Done) ⊎ (status ≡ S.NoMemory)
bytes_are_done kinds options bytes w z kept S.Done law script is answer never = inl refl
bytes_are_done kinds options bytes w z kept S.WriteFault law script is answer never = absurd (never refl)
bytes_are_done kinds options bytes w z kept S.NoMemory law script is answer never = inr refl
bytes_are_done kinds options bytes w z kept S.TooLong law script is answer never = absurd (is.limits answer.2)
bytes_are_done kinds options bytes w z kept (S.Script line reason) law script is answer never =
    absurd ((law (length kinds) bytes).apart script line reason is answer.3)
bytes_are_done kinds options bytes w z kept S.ReadFault law script is answer never = absurd answer
bytes_are_done kinds options bytes w z kept S.Usage law script is answer never = absurd answer

-- and an input that is one
pub input_is_done : (kinds : List ActionKind) (words : List (List ℕ)) (options : Options) → AskInput words options → TextsAreJudged → (lo ln w z : Option (List ℕ)) (kept : Option View) (status : Status)
    → Answers kinds options lo ln w z kept status → AskForScript (length kinds) words lo → ¬ (status ≡ S.WriteFault)
    → (status ≡ S.Done) ⊎ (status ≡ S.NoMemory)
input_is_done kinds words options ask law lo ln w z kept status a asks never =
    let same : asks.options ≡ options = same_Some asks.options options (sym asks.asked ∙ ask.asked) in
    let input = asks.input (ap (λ (o : Options). o.generated) same ∙ ask.none) in
    bytes_are_done kinds options a.bytes w z kept status law input.1
    (subst (λ (bytes : List ℕ). IsScript (length kinds) bytes input.1)
    (sym (all_read lo ln a.bytes input.0 input.2 a.read input.3.limits)) input.3) a.answer never

-- words that are refused don't ask for a script
pub refused_ask_nothing : (callbacks : ℕ) (words : List (List ℕ)) (left : Option (List ℕ)) → options_asked words ≡ None → AskForScript callbacks words left → ⊥
refused_ask_nothing callbacks words left none asks = none-some asks.options (sym none ∙ asks.asked)
