-- What standard error is told of a run that is not done.
use Rattle.std.proofs.Common.{◌≡◌, ℕ, List, [], ◌∷◌, ◌++◌, Option, Some, None, refl, sym, subst}
use Rattle.std.proofs.lemmas.List.{append-nil}
use Rattle.std.specs.Io.KnownBytes.{Appends}
use Rattle.std.specs.Prelude.{codes}
use Rattle.script_run.specs.declared.status.Status.{Status}
use Rattle.script_run.specs.declared.status.Status.TheVariants as S
use Rattle.script_run.specs.Statuses.{message_of, error_text_of}

pub told_unless_done : (status : Status) → ¬ (status ≡ S.Done) → error_text_of status ≡ codes "cppgc_main: " ++ message_of status ++ 10 ∷ []
told_unless_done S.Done not_done = absurd (not_done refl)
told_unless_done S.TooLong not_done = refl
told_unless_done (S.Script line reason) not_done = refl
told_unless_done S.ReadFault not_done = refl
told_unless_done S.WriteFault not_done = refl
told_unless_done S.NoMemory not_done = refl
told_unless_done S.Usage not_done = refl

appends_nothing : (held : Option (List ℕ)) → Appends held held []
appends_nothing None = tt
appends_nothing (Some bytes) = sym (append-nil bytes)

-- of a run that is done nothing is told
pub told_nothing : (status : Status) → status ≡ S.Done → (held : Option (List ℕ)) → Appends held held (error_text_of status)
told_nothing status done held = subst (λ (s : Status). Appends held held (error_text_of s)) (sym done) (appends_nothing held)
