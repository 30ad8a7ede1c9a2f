use Rattle.std.proofs.Common.{◌≡◌, ℕ, ◌-◌, ◌<◌, List, [], ◌∷◌, ◌++◌, ◌∙◌, ap, sym, refl, inr, take, drop, append_assoc, arith, rules}
use Rattle.line_words.specs.Cursor.{line_words}
use Rattle.heap_script.proofs.TypeCallbacks.{one_kept, one_over, read_to_end, read_to_weak, read_to_fault}
use Rattle.heap_script.proofs.type_lines.read_numbers.Goals as goal

pub loop-numbers-preserved-then-not-is_kept : goal.loop-numbers-preserved-then-not-is_kept
loop-numbers-preserved-then-not-is_kept c =
    let bytes : List ℕ = c.args.bytes.now in
    let start : ℕ = c.next_word-start.result.0 in
    let end : ℕ = c.next_word-start.result.1 in
    let word : List ℕ = take (end - start) (drop start bytes) in
    let taken : List (List ℕ) = c.loop-numbers.invariant.taken in
    let found = c.next_word-start.ensures in
    let some : start < end = omega arith in
    record {
      taken = taken ++ word ∷ [];
      whole = c.loop-numbers.invariant.whole
          ∙ ap (λ (ws : List (List ℕ)). taken ++ ws) (found.some some)
          ∙ sym (append_assoc taken (word ∷ []) (line_words (drop end bytes)));
      order = omega arith;
      within = found.within;
      same = c.loop-numbers.invariant.same ∙ found.same;
      called = one_over c.args.callbacks taken word c.loop-numbers.numbers.items c.loop-numbers.over c.in-Some.value
          c.loop-numbers.invariant.called c.in-Some.ensures (search rules);
    }

pub loop-numbers-preserved : goal.loop-numbers-preserved
loop-numbers-preserved c =
    let bytes : List ℕ = c.args.bytes.now in
    let start : ℕ = c.next_word-start.result.0 in
    let end : ℕ = c.next_word-start.result.1 in
    let word : List ℕ = take (end - start) (drop start bytes) in
    let taken : List (List ℕ) = c.loop-numbers.invariant.taken in
    let found = c.next_word-start.ensures in
    let some : start < end = omega arith in
    let pushed : c.push.new.self.items ≡ c.loop-numbers.numbers.items ++ c.in-Some.value ∷ [] = search rules in
    record {
      taken = taken ++ word ∷ [];
      whole = c.loop-numbers.invariant.whole
          ∙ ap (λ (ws : List (List ℕ)). taken ++ ws) (found.some some)
          ∙ sym (append_assoc taken (word ∷ []) (line_words (drop end bytes)));
      order = omega arith;
      within = found.within;
      same = c.loop-numbers.invariant.same ∙ found.same;
      called = rw pushed (one_kept c.args.callbacks taken word c.loop-numbers.numbers.items c.loop-numbers.over c.in-Some.value
          c.loop-numbers.invariant.called c.in-Some.ensures (search rules));
    }

pub returns-then-start-end-clause-read : goal.returns-then-start-end-clause-read
returns-then-start-end-clause-read c =
    let bytes : List ℕ = c.args.bytes.now in
    let found = c.next_word-start.ensures in
    let none = found.none (omega arith) in
    read_to_end c.args.callbacks c.args.stops bytes c.args.from c.loop-numbers.at c.loop-numbers.invariant.taken c.loop-numbers.numbers.items
    c.loop-numbers.over c.ended.result c.loop-numbers.invariant.whole none.0
    (record {
      order = omega (arith, c.loop-numbers.invariant.order, none.1.order, c.ended.ensures.end);
      within = omega (arith, none.1.within, c.ended.ensures.end);
      stop = rw c.ended.ensures.end none.1.stop;
      same = rw c.ended.ensures.end (c.loop-numbers.invariant.same ∙ none.1.same);
    })
    c.loop-numbers.invariant.called c.ended.ensures.numbers c.ended.ensures.over c.ended.ensures.bare c.ended.ensures.weak

pub returns-in-None-clause-read : goal.returns-in-None-clause-read
returns-in-None-clause-read c =
    let bytes : List ℕ = c.args.bytes.now in
    let start : ℕ = c.next_word-start.result.0 in
    let end : ℕ = c.next_word-start.result.1 in
    let word : List ℕ = take (end - start) (drop start bytes) in
    let found = c.next_word-start.ensures in
    let some : start < end = omega arith in
    read_to_weak c.args.callbacks c.args.stops bytes c.args.from c.loop-numbers.at c.loop-numbers.invariant.taken word c.loop-numbers.numbers.items
    c.loop-numbers.over c.ended-in-None.result c.loop-numbers.invariant.whole (rw c.ended-in-None.ensures.end (found.some some))
    (sym c.stops_at.ensures ∙ c.if-stops_at.true)
    (omega (arith, c.loop-numbers.invariant.order, found.before, found.order, c.ended-in-None.ensures.end))
    (omega (arith, found.within, c.ended-in-None.ensures.end))
    (rw c.ended-in-None.ensures.end (c.loop-numbers.invariant.same ∙ found.same))
    c.loop-numbers.invariant.called c.ended-in-None.ensures.numbers c.ended-in-None.ensures.over c.ended-in-None.ensures.bare
    c.ended-in-None.ensures.weak

pub returns-in-None-2-clause-fault : goal.returns-in-None-2-clause-fault
returns-in-None-2-clause-fault c =
    let bytes : List ℕ = c.args.bytes.now in
    let start : ℕ = c.next_word-start.result.0 in
    let end : ℕ = c.next_word-start.result.1 in
    let word : List ℕ = take (end - start) (drop start bytes) in
    let some : start < end = omega arith in
    inr (
      refl,
      read_to_fault c.args.callbacks c.args.stops bytes c.args.from c.loop-numbers.at end c.loop-numbers.invariant.taken word
          c.loop-numbers.numbers.items c.loop-numbers.over c.loop-numbers.invariant.whole (c.next_word-start.ensures.some some)
          c.loop-numbers.invariant.called c.in-None.ensures (sym c.stops_at.ensures ∙ c.if-stops_at.false),
    )
