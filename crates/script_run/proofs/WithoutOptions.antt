-- What is answered where the words give no options.
use Rattle.std.proofs.Common.{◌≡◌, ◌⊎◌, ℕ, List, Option, None, refl, sym, ◌∙◌, subst, inr}
use Rattle.command_line.specs.declared.options.OptionsFault.{OptionsFault}
use Rattle.command_line.specs.declared.options.OptionsFault.TheVariants as O
use Rattle.command_line.specs.Options.{options_asked}
use Rattle.script_run.specs.declared.status.Status.{Status}
use Rattle.script_run.specs.declared.status.Status.TheVariants as S
use Rattle.script_run.specs.Headline.{AskForScript, status_of_words}
use Rattle.script_run.proofs.Complete.{refused_ask_nothing}

-- it is one of two answers, and what holds of both holds of it
pub told_of_words : (fault : OptionsFault) (status : Status) → status ≡ status_of_words fault → (P : Status → Type 0) → P S.Usage → P S.NoMemory → P status
told_of_words O.Usage status is P usage memory = subst P (sym is) usage
told_of_words O.NoMemory status is P usage memory = subst P (sym is) memory

-- it is none of the others
pub no_other_answer : (fault : OptionsFault) (status other : Status) → status ≡ status_of_words fault → (S.Usage ≡ other → ⊥) → (S.NoMemory ≡ other → ⊥) → status ≡ other → ⊥
no_other_answer O.Usage status other is usage memory same = usage (sym is ∙ same)
no_other_answer O.NoMemory status other is usage memory same = memory (sym is ∙ same)

-- Usage says that the words are refused
pub usage_is_refusal : (fault : OptionsFault) (status : Status) → status ≡ status_of_words fault → status ≡ S.Usage → fault ≡ O.Usage
usage_is_refusal O.Usage status is usage = refl
usage_is_refusal O.NoMemory status is usage = let clash : S.NoMemory ≡ S.Usage = sym is ∙ usage in cc

-- words that ask for a script aren't refused, so memory was wanting
pub memory_was_wanting : (callbacks : ℕ) (words : List (List ℕ)) (left : Option (List ℕ)) (fault : OptionsFault) (status : Status) → status ≡ status_of_words fault
    → (fault ≡ O.Usage → options_asked words ≡ None) → AskForScript callbacks words left → (status ≡ S.Done) ⊎ (status ≡ S.NoMemory)
memory_was_wanting callbacks words left O.Usage status is refused asks = absurd (refused_ask_nothing callbacks words left (refused refl) asks)
memory_was_wanting callbacks words left O.NoMemory status is refused asks = inr is
