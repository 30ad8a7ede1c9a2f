use Rattle.std.proofs.Common.{◌≡◌, ◌⊎◌, true, true≢false, map, string_bytes, option_map, ap, sym, refl, inl, inr, rules}
use Rattle.script_run.specs.declared.status.Status.TheVariants as S
use Rattle.script_run.specs.Headline.{tells_of_input}
use Rattle.script_run.proofs.Outcomes.{asks_input, answers_done, answers_stopped, answers_script, made_done, made_stopped, script_tells_no_input, none_of, of_kept}
use Rattle.script_run.proofs.Complete.{script_is_done, input_is_done}
use Rattle.script_run.proofs.WithoutOptions.{told_of_words, no_other_answer, usage_is_refusal, memory_was_wanting}
use Rattle.script_run.proofs.one_run.run.Goals as goal

-- ---- the input

pub returns-in-Ok-read_whole-clause-done : goal.returns-in-Ok-read_whole-clause-done
returns-in-Ok-read_whole-clause-done g c =
    λ is. of_kept (λ heap. heap.core) _ c.run_bytes.new.kept (answers_done _ (map string_bytes c.args.words.now) c.in-Ok.options
    (record { asked = c.in-Ok.ensures.asked; none = none_of c.in-Ok.options.generated c.in_default.not-Some }) _ _ _ _ _ _
    (record { bytes = c.deref.result.now; read = rw c.deref.ensures.value c.in-Ok-read_whole.ensures.bytes; answer = c.run_bytes.ensures.answer }) is)

pub returns-in-Ok-read_whole-clause-stopped : goal.returns-in-Ok-read_whole-clause-stopped
returns-in-Ok-read_whole-clause-stopped g c =
    answers_stopped _ (map string_bytes c.args.words.now) c.in-Ok.options
    (record { asked = c.in-Ok.ensures.asked; none = none_of c.in-Ok.options.generated c.in_default.not-Some }) _ _ _ _ (option_map (λ heap. heap.core) c.run_bytes.new.kept) _
    (record { bytes = c.deref.result.now; read = rw c.deref.ensures.value c.in-Ok-read_whole.ensures.bytes; answer = c.run_bytes.ensures.answer })

pub returns-in-Ok-read_whole-clause-script : goal.returns-in-Ok-read_whole-clause-script
returns-in-Ok-read_whole-clause-script g c =
    answers_script _ c.in-Ok.options _ _ (g.K.Sink.written c.args.sink.now) (g.K.Sink.written c.run_bytes.new.sink) (option_map (λ heap. heap.core) c.run_bytes.new.kept) _
    (record { bytes = c.deref.result.now; read = rw c.deref.ensures.value c.in-Ok-read_whole.ensures.bytes; answer = c.run_bytes.ensures.answer })

pub returns-in-Ok-read_whole-clause-input : goal.returns-in-Ok-read_whole-clause-input
returns-in-Ok-read_whole-clause-input g c = λ tells. asks_input (map string_bytes c.args.words.now) c.in-Ok.options
    (record { asked = c.in-Ok.ensures.asked; none = none_of c.in-Ok.options.generated c.in_default.not-Some })

pub returns-in-Ok-read_whole-clause-complete : goal.returns-in-Ok-read_whole-clause-complete
returns-in-Ok-read_whole-clause-complete g c =
    λ asks read wrote. input_is_done _ (map string_bytes c.args.words.now) c.in-Ok.options
    (record { asked = c.in-Ok.ensures.asked; none = none_of c.in-Ok.options.generated c.in_default.not-Some }) c.texts_are_judged.ensures _ _
    (g.K.Sink.written c.args.sink.now) (g.K.Sink.written c.run_bytes.new.sink) (option_map (λ heap. heap.core) c.run_bytes.new.kept) _
    (record { bytes = c.deref.result.now; read = (rw (← c.deref.ensures.value) at c.in-Ok-read_whole.ensures.bytes); answer = c.run_bytes.ensures.answer }) asks (λ is. wrote (c.run_bytes.ensures.fault is))

-- ---- the generated script

pub returns-in-Some-clause-done : goal.returns-in-Some-clause-done
returns-in-Some-clause-done g c =
    λ is. of_kept (λ heap. heap.core) _ c.run_generated.new.kept
    (made_done _ (map string_bytes c.args.words.now) c.in-Ok.options c.in-Some.asked
    (record { asked = c.in-Ok.ensures.asked; some = c.in-Some.is }) _ _ _ _ _ c.run_generated.ensures.answer is)

pub returns-in-Some-clause-stopped : goal.returns-in-Some-clause-stopped
returns-in-Some-clause-stopped g c =
    made_stopped _ (map string_bytes c.args.words.now) c.in-Ok.options c.in-Some.asked
    (record { asked = c.in-Ok.ensures.asked; some = c.in-Some.is }) _ _ _ (option_map (λ heap. heap.core) c.run_generated.new.kept) _ c.run_generated.ensures.answer

pub returns-in-Some-clause-input : goal.returns-in-Some-clause-input
returns-in-Some-clause-input g c =
    λ tells. absurd (script_tells_no_input _ _ _ _ _ _ (option_map (λ heap. heap.core) c.run_generated.new.kept) _ c.run_generated.ensures.answer tells)

pub returns-in-Some-clause-too_long : goal.returns-in-Some-clause-too_long
returns-in-Some-clause-too_long g c =
    λ is. absurd (script_tells_no_input _ _ _ _ _ _ (option_map (λ heap. heap.core) c.run_generated.new.kept) _ c.run_generated.ensures.answer (ap tells_of_input is))

pub returns-in-Some-clause-script : goal.returns-in-Some-clause-script
returns-in-Some-clause-script g c =
    λ line reason is. absurd (script_tells_no_input _ _ _ _ _ _ (option_map (λ heap. heap.core) c.run_generated.new.kept) _ c.run_generated.ensures.answer (ap tells_of_input is))

pub returns-in-Some-clause-read_fault : goal.returns-in-Some-clause-read_fault
returns-in-Some-clause-read_fault g c =
    λ is. absurd (script_tells_no_input _ _ _ _ _ _ (option_map (λ heap. heap.core) c.run_generated.new.kept) _ c.run_generated.ensures.answer (ap tells_of_input is))

pub returns-in-Some-clause-source_untouched : goal.returns-in-Some-clause-source_untouched
returns-in-Some-clause-source_untouched g c = λ none. record { told = refl; faults = refl }

pub returns-in-Some-clause-complete : goal.returns-in-Some-clause-complete
returns-in-Some-clause-complete g c =
    λ asks read wrote. script_is_done _ _ _ _ _ _ (option_map (λ heap. heap.core) c.run_generated.new.kept) _ c.run_generated.ensures.answer (λ is. wrote (c.run_generated.ensures.fault is))

-- ---- words that give no options

pub returns-in-Err-clause-done : goal.returns-in-Err-clause-done
returns-in-Err-clause-done g c =
    λ is. absurd (no_other_answer c.in-Err.fault c.status_without_options.result S.Done c.status_without_options.ensures (λ e. cc) (λ e. cc) is)

pub returns-in-Err-clause-stopped : goal.returns-in-Err-clause-stopped
returns-in-Err-clause-stopped g c =
    λ is. absurd (no_other_answer c.in-Err.fault c.status_without_options.result S.WriteFault c.status_without_options.ensures (λ e. cc) (λ e. cc) is)

pub returns-in-Err-clause-too_long : goal.returns-in-Err-clause-too_long
returns-in-Err-clause-too_long g c =
    λ is. absurd (no_other_answer c.in-Err.fault c.status_without_options.result S.TooLong c.status_without_options.ensures (λ e. cc) (λ e. cc) is)

pub returns-in-Err-clause-script : goal.returns-in-Err-clause-script
returns-in-Err-clause-script g c =
    λ line reason is. absurd (no_other_answer c.in-Err.fault c.status_without_options.result (S.Script line reason) c.status_without_options.ensures (λ e. cc) (λ e. cc) is)

pub returns-in-Err-clause-usage : goal.returns-in-Err-clause-usage
returns-in-Err-clause-usage g c =
    λ is. c.in-Err.ensures.refused (usage_is_refusal c.in-Err.fault _ c.status_without_options.ensures is)

pub returns-in-Err-clause-refused : goal.returns-in-Err-clause-refused
returns-in-Err-clause-refused g c =
    λ none. told_of_words c.in-Err.fault _ c.status_without_options.ensures (λ s. (s ≡ S.Usage) ⊎ (s ≡ S.NoMemory)) (inl refl) (inr refl)

pub returns-in-Err-clause-input : goal.returns-in-Err-clause-input
returns-in-Err-clause-input g c =
    λ tells. absurd (told_of_words c.in-Err.fault c.status_without_options.result c.status_without_options.ensures (λ s. tells_of_input s ≡ true → ⊥) (λ told. true≢false (sym told)) (λ told. true≢false (sym told)) tells)

pub returns-in-Err-clause-source_untouched : goal.returns-in-Err-clause-source_untouched
returns-in-Err-clause-source_untouched g c =
    λ none. record { told = refl; faults = refl }

pub returns-in-Err-clause-read_fault : goal.returns-in-Err-clause-read_fault
returns-in-Err-clause-read_fault g c =
    λ is. absurd (no_other_answer c.in-Err.fault c.status_without_options.result S.ReadFault c.status_without_options.ensures (λ e. cc) (λ e. cc) is)

pub returns-in-Err-clause-write_fault : goal.returns-in-Err-clause-write_fault
returns-in-Err-clause-write_fault g c =
    λ is. absurd (no_other_answer c.in-Err.fault c.status_without_options.result S.WriteFault c.status_without_options.ensures (λ e. cc) (λ e. cc) is)

pub returns-in-Err-clause-complete : goal.returns-in-Err-clause-complete
returns-in-Err-clause-complete g c =
    λ asks read wrote. memory_was_wanting _ (map string_bytes c.args.words.now) _ c.in-Err.fault _ c.status_without_options.ensures c.in-Err.ensures.refused asks

-- ---- a read that failed

pub returns-in-Err-Fault-clause-complete : goal.returns-in-Err-Fault-clause-complete
returns-in-Err-Fault-clause-complete g c = λ asks read wrote. absurd (read (search rules))

pub returns-in-Err-Memory-clause-complete : goal.returns-in-Err-Memory-clause-complete
returns-in-Err-Memory-clause-complete g c = λ asks read wrote. inr refl

pub returns-in-Err-Fault-clause-no_read_failed : goal.returns-in-Err-Fault-clause-no_read_failed
returns-in-Err-Fault-clause-no_read_failed g c = λ other. absurd (other refl)

pub returns-in-Err-Fault-clause-no_write_failed : goal.returns-in-Err-Fault-clause-no_write_failed
returns-in-Err-Fault-clause-no_write_failed g c = λ other. refl

pub returns-in-Err-Memory-clause-read_fault : goal.returns-in-Err-Memory-clause-read_fault
returns-in-Err-Memory-clause-read_fault g c = λ is. cc
