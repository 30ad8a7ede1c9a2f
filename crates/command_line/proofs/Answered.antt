-- What `clap` answers is what the definition says.
use Rattle.std.proofs.Common.{◌≡◌, ◌∙◌, true, false, List, [], ◌∷◌, Option, Some, None, refl, sym, ap, inl, inr}
use Rattle.std.specs.Prelude.{option_and_then, Result, Ok, Err, IfOk, IfErr, IsErrAnd}
use Rattle.std.specs.Option.{ok_or}
use Rattle.std.specs.List.{list_any}
use Rattle.clap.specs.Kinds.{Kinds, HasKind, IsAmong}
use Rattle.clap.specs.Values.{kind_of}
use Rattle.clap.specs.Walk.{Text, nothing_held, rows_of, walk_from, with_default}
use Rattle.clap.specs.Simple.{App, matches_of}
use Rattle.clap.specs.Faults.{fault_of}
use Rattle.clap.specs.declared.error.Error.{Error}
use Rattle.clap.specs.declared.error.kind.ErrorKind.{ErrorKind}
use Rattle.clap.specs.declared.error.kind.ErrorKind.TheVariants.{OutOfMemory}
use Rattle.clap.specs.declared.parser.matches.Found.{Found}
use Rattle.command_line.specs.ClapRules.{is_lone, options_app}
use Rattle.command_line.specs.Heard.{Heard, Holds, options_heard}
use Rattle.command_line.specs.Settings.{settings_of}
use Rattle.command_line.specs.Options.{options_asked, options_from, options_set}
use Rattle.command_line.proofs.InTurn.{asked_in_turn}
use Rattle.command_line.proofs.Built.{filled_summary}
use Rattle.command_line.proofs.Said.{heard_of}
use Rattle.command_line.proofs.OneMore.{with_settings, asked_of}
use Rattle.command_line.proofs.Uses.{has_some}
use Rattle.command_line.proofs.Walked.{Ends, fault_from, rows_from, runs}
use Rattle.command_line.proofs.Lone.{lone_refused}
use Rattle.command_line.proofs.Parsed.{fault_is, holds, matches_are}

-- where there is a kind, something is refused
among : (k : ErrorKind) (kinds : Kinds) → IsAmong k kinds → has_some kinds ≡ true
among k [] e = absurd e
among k (x ∷ kinds) e = refl

-- the error has one of the kinds
kinds_come : (kinds : Kinds) (error : Error) → HasKind kinds error → (kind_of error ≡ OutOfMemory → ⊥) → has_some kinds ≡ true
kinds_come kinds error (inl memory) other = absurd (other memory)
kinds_come kinds error (inr one) other = among (kind_of error) kinds one

-- two dashes alone are refused
pub lone_asks_nothing : (words : List Text) → list_any is_lone words ≡ true → options_asked words ≡ None
lone_asks_nothing words e = ap (option_and_then options_set) (lone_refused words e)

module _ (words : List Text) (none : list_any is_lone words ≡ false) (app : App) (is : app ≡ options_app) where
  -- the walk over the words makes the settings that they are
  ends : Ends (fault_from (walk_from nothing_held) words) (rows_from (walk_from nothing_held) words) (with_settings (asked_of (Some [])) (settings_of words))
  ends = runs words none [] None

  -- what is refused of the walk is what `clap` refuses
  fault : fault_of app words ≡ fault_from (walk_from nothing_held) words
  fault = ap (λ a. fault_of a words) is ∙ fault_is words

  -- an error that is no want of memory says that the words are refused
  pub refused : (error : Error) → HasKind (fault_of app words) error → (kind_of error ≡ OutOfMemory → ⊥) → options_asked words ≡ None
  refused error kinds other =
      asked_in_turn (settings_of words)
      ∙ ap (option_and_then options_from) (ends.0 (ap has_some (sym fault) ∙ kinds_come (fault_of app words) error kinds other))

  -- matches hold what the words ask for
  pub accepted : (found : Found) → fault_of app words ≡ [] → rows_of found ≡ matches_of app words
      → (heard : Heard) × Holds found heard × (options_heard heard ≡ options_asked words)
  accepted found no_kind rows_are =
      let end = ends.1 (ap has_some (sym fault ∙ no_kind)) in (
        heard_of end.0,
        holds found end.0 (rows_are ∙ ap (λ a. matches_of a words) is ∙ matches_are words ∙ ap (λ rs. with_default rs filled_summary) end.1),
        ap (option_and_then options_from) end.2 ∙ sym (asked_in_turn (settings_of words)),
      )

-- ---- the answer as a result

module _ {X E : Type 0} where
  -- what an error says of itself it says of the answer
  pub err_of : (r : Result X E) (P Q : E → Type 0) → ((e : E) → P e → Q e) → IsErrAnd r P → IfErr r Q
  err_of (Ok x) P Q more e = absurd e
  err_of (Err y) P Q more e = more y e

  -- the answer has what is asked for
  pub ok_asked : (r : Result X E) (o asked : Option X) (e : E) → r ≡ ok_or o e → o ≡ asked → IfOk r (λ x. asked ≡ Some x)
  ok_asked r None asked e is same = rw is tt
  ok_asked r (Some x) asked e is same = rw is (sym same)

  -- an error says that nothing is
  pub err_asked : (r : Result X E) (o asked : Option X) (e : E) → r ≡ ok_or o e → o ≡ asked → (f : E) → IfErr r (λ g. g ≡ f → asked ≡ None)
  err_asked r None asked e is same f = rw is (λ _. sym same)
  err_asked r (Some x) asked e is same f = rw is tt
