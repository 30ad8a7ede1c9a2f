use Rattle.std.proofs.Common.{◌≡◌, ℕ, ◌+◌, ◌<◌, ◌∷◌, List, length, drop, ap, sym, ◌∙◌, refl, arith}
use Rattle.std.proofs.lemmas.List.{drop_all}
use Rattle.gc_graph.specs.Words.{lines_of}
use Rattle.gc_graph.specs.Script.{version_of}
use Rattle.heap_script.specs.declared.past.Past.{Past}
use Rattle.line_words.specs.Cursor.{first_line, line_words, lines_after}
use Rattle.heap_script.specs.Reading.{fault_with}
use Rattle.heap_script.proofs.LinesInTurn.{lines_left}
use Rattle.heap_script.proofs.ReadSoFar.{next_there, rest_is, read_lines, read_more}
use Rattle.heap_script.proofs.ScriptEnds.{all_read, section_stop, line_stop, too_many}
use Rattle.heap_script.proofs.script_reader.read_after.Goals as goal

pub loop-at-preserved : goal.loop-at-preserved
loop-at-preserved c =
    let bytes : List ℕ = c.args.bytes.now in
    let at : ℕ = c.loop-at.at in
    let n : ℕ = c.loop-at.invariant.read_lines in
    let tail : List (List ℕ) = lines_of (drop c.args.from bytes) in
    let line : List ℕ = first_line (drop at bytes) in
    let here : drop n tail ≡ line ∷ lines_after (drop at bytes) = c.loop-at.invariant.left ∙ lines_left bytes at c.loop-at-test.true in
    record {
      within = c.next_line-at.ensures.within;
      few = omega (arith, read_lines c.args.callbacks (line_words (drop at bytes)) c.loop-at.kept c.keep_line.new.kept c.in-Ok.ensures.kept);
      read_lines = n + 1;
      left = rest_is tail (lines_after (drop at bytes)) n line here
          ∙ c.in-Ok.ensures.end.same ∙ sym c.next_line-at.ensures.lines;
      read = read_more (version_of (first_line bytes)) c.args.callbacks tail (lines_after (drop at bytes)) n line c.loop-at.kept c.keep_line.new.kept (line_words (drop at bytes))
          c.loop-at.invariant.read here refl c.in-Ok.ensures.kept;
    }

pub returns-then-kept-eq-MOST_LINES-clause-fault : goal.returns-then-kept-eq-MOST_LINES-clause-fault
returns-then-kept-eq-MOST_LINES-clause-fault c =
    let bytes : List ℕ = c.args.bytes.now in
    let read = c.loop-at.invariant.read in
    let tail : List (List ℕ) = lines_of (drop c.args.from bytes) in
    let low : c.loop-at.invariant.read_lines < length tail =
    next_there tail (lines_after (drop c.loop-at.at bytes)) c.loop-at.invariant.read_lines (first_line (drop c.loop-at.at bytes))
    (c.loop-at.invariant.left ∙ lines_left bytes c.loop-at.at c.loop-at-test.true) in
    rw c.too_long.ensures (too_many c.args.callbacks bytes (omega (arith, low, read.count, ap length c.requires.lines, c.if-kept-eq-MOST_LINES.true)))

pub returns-in-Err-clause-fault : goal.returns-in-Err-clause-fault
returns-in-Err-clause-fault c =
    let bytes : List ℕ = c.args.bytes.now in
    let at : ℕ = c.loop-at.at in
    let n : ℕ = c.loop-at.invariant.read_lines in
    let tail : List (List ℕ) = lines_of (drop c.args.from bytes) in
    let line : List ℕ = first_line (drop at bytes) in
    let more : List (List ℕ) = lines_after (drop at bytes) in
    let here : drop n tail ≡ line ∷ more = c.loop-at.invariant.left ∙ lines_left bytes at c.loop-at-test.true in
    let past : Past = c.loop-at.kept.past in
    let total : ℕ = past.lines + length (lines_of (drop at bytes)) in
    line_stop c.args.callbacks bytes (first_line bytes) tail c.requires.lines c.requires.header c.requires.few more n line past
    c.loop-at.kept.types.items c.loop-at.kept.commands.items (line_words (drop at bytes)) c.in-Err.reason total c.fault_at.result c.loop-at.invariant.read here refl
    c.in-Err.ensures.fault.0 c.in-Err.ensures.fault.1
    (ap (λ (ls : List (List ℕ)). past.lines + length ls) (lines_left bytes at c.loop-at-test.true))
    (c.fault_at.ensures
    ∙ ap (λ (p : Past). fault_with (p.lines + length (lines_of (drop at bytes))) p.lines c.in-Err.reason) c.in-Err.ensures.same)

pub returns-clause-fault : goal.returns-clause-fault
returns-clause-fault c =
    let bytes : List ℕ = c.args.bytes.now in
    section_stop c.args.callbacks bytes (first_line bytes) (lines_of (drop c.args.from bytes)) c.requires.lines c.requires.header c.requires.few
    c.loop-at.invariant.read_lines c.loop-at.kept.past c.loop-at.kept.types.items c.loop-at.kept.commands.items c.loop-at.invariant.read
    (c.loop-at.invariant.left ∙ ap lines_of (drop_all c.loop-at.at bytes (omega arith))) c.loop-at.invariant.few
    (sym c.is_at_rest.ensures ∙ c.if-is_at_rest.false)

pub returns-then-is_at_rest-clause-whole : goal.returns-then-is_at_rest-clause-whole
returns-then-is_at_rest-clause-whole c =
    let bytes : List ℕ = c.args.bytes.now in
    all_read c.args.callbacks bytes (first_line bytes) (lines_of (drop c.args.from bytes)) c.requires.lines c.requires.header c.requires.few
    c.loop-at.invariant.read_lines c.loop-at.kept
    c.loop-at.invariant.read
    (c.loop-at.invariant.left ∙ ap lines_of (drop_all c.loop-at.at bytes (omega arith))) c.loop-at.invariant.few
    (sym c.is_at_rest.ensures ∙ c.if-is_at_rest.true)
