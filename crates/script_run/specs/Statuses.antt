-- The exit status and the message of each way in which a run ends.
use Rattle.std.specs.Prelude.{ℕ, List, [], ◌∷◌, ◌++◌, codes, decimal}
use Rattle.script_run.specs.declared.status.Status.{Status}
use Rattle.script_run.specs.declared.status.Status.TheVariants as S

-- the exit status of the program
abbrev pub exit_status_of : Status → ℕ
exit_status_of S.Done = 0
exit_status_of S.TooLong = 2
exit_status_of (S.Script line reason) = 2
exit_status_of S.ReadFault = 3
exit_status_of S.WriteFault = 4
exit_status_of S.NoMemory = 5
exit_status_of S.Usage = 6

-- why a run ended, in words
abbrev pub message_of : Status → List ℕ
message_of S.Done = codes "done"
message_of S.TooLong = codes "too long"
message_of (S.Script line reason) = codes "script line " ++ decimal line ++ codes " reason " ++ decimal reason
message_of S.ReadFault = codes "read fault"
message_of S.WriteFault = codes "write fault"
message_of S.NoMemory = codes "no memory"
message_of S.Usage = codes "usage"

-- what standard error is told: why the run is not done, in a line of its own
abbrev pub error_text_of : Status → List ℕ
error_text_of S.Done = []
error_text_of status = codes "cppgc_main: " ++ message_of status ++ 10 ∷ []
