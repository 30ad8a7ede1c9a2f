use Rattle.std.proofs.Common.{arith}
use Rattle.command_text.proofs.PlacesRead.{on_no_words, on_word}
use Rattle.command_text.proofs.said.read_next.Goals as goal

pub returns-then-word : goal.returns-then-word
returns-then-word c =
    on_no_words c.args.bounds _ c.args.bytes.now c.args.said c.requires.within c.requires.low
    (c.next_number-word.ensures.word.none (omega (arith, c.if-word.true))).0

pub returns : goal.returns
returns c =
    let word = c.next_number-word.ensures.word in
    let its = c.read_as.ensures in
    let new = c.with_word.ensures in
    on_word c.args.bounds c.args.spot c.args.bytes.now c.args.said c.with_word.result c.next_number-word.result.end c.read_as.result.rank
    c.read_as.result.value (record {
      word = _;
      words = word.some (omega (arith, word.order, c.if-word.false));
      its_rank = its.rank;
      number = its.value;
      null = its.null;
      order = omega (arith, word.before, word.order);
      within = word.within;
      same = word.same;
    }) c.requires.low new.rank new.end new.count new.numbers
