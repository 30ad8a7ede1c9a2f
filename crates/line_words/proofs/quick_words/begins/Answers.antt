use Rattle.std.proofs.Common.{◌≡◌, ◌+◌, ◌-◌, length, take, drop, sym, ap, ◌∙◌, arith}
use Rattle.std.specs.Cmp.Lexicographic.{bytes_decides}
use Rattle.line_words.proofs.QuickWords.{first_word}
use Rattle.line_words.proofs.quick_words.begins.Goals as goal

pub returns : goal.returns
returns c = λ e.
    let count : c.args.at + length c.args.word.now - c.args.at ≡ length c.args.word.now = omega arith in
    first_word c.args.bytes.now c.args.at c.args.word.now (omega (arith, c.if-bytes-at.false)) (c.if-bytes-at-ne32.false) c.requires.some c.requires.word
    (ap (λ m. take m (drop c.args.at c.args.bytes.now)) (sym count) ∙ (bytes_decides _ _).0 (sym c.eq.ensures ∙ e))
