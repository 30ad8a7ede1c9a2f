use Rattle.std.proofs.Common.{◌≡◌, ◌∙◌, false, true≢false, ap, sym, map, string_bytes}
use Rattle.std.specs.List.{list_any}
use Rattle.clap.specs.Matches.{found_of}
use Rattle.clap.specs.Simple.{is_simple}
use Rattle.clap.specs.Faults.{is_simple_and_free}
use Rattle.command_line.specs.declared.options.OptionsFault.TheVariants.{Usage}
use Rattle.command_line.specs.Options.{options_asked}
use Rattle.command_line.specs.ClapRules.{is_lone}
use Rattle.command_line.proofs.Answered.{accepted, err_asked, err_of, lone_asks_nothing, ok_asked, refused}
use Rattle.command_line.proofs.options.options_of.Goals as goal

pub returns-then-has_lone_dashes-clause-refused : goal.returns-then-has_lone_dashes-clause-refused
returns-then-has_lone_dashes-clause-refused c = λ _. lone_asks_nothing (map string_bytes c.args.words.now) (sym c.has_lone_dashes.ensures ∙ c.if-has_lone_dashes.true)

pub returns-in_err-matches-clause-refused : goal.returns-in_err-matches-clause-refused
returns-in_err-matches-clause-refused c =
    let words = map string_bytes c.args.words.now in
    err_of c.from_residual-in_err-matches.result _ _
    (λ fault from usage. refused words (sym c.has_lone_dashes.ensures ∙ c.if-has_lone_dashes.false) _ c.in_ok-command.ensures c.in_err-matches.field-0.0 (c.in_err-matches.ensures.kinds (ap is_simple_and_free c.in_ok-command.ensures)) (from.0 usage))
    c.from_residual-in_err-matches.ensures.1

pub returns : goal.returns
returns c =
    let words = map string_bytes c.args.words.now in
    let none : list_any is_lone words ≡ false = sym c.has_lone_dashes.ensures ∙ c.if-has_lone_dashes.false in
    let held = accepted words none _ c.in_ok-command.ensures (found_of c.in_ok-matches.matches)
    (c.in_ok-matches.ensures.kinds (ap is_simple_and_free c.in_ok-command.ensures)) (c.in_ok-matches.ensures.matches (ap is_simple c.in_ok-command.ensures)).0 in
    let answer = c.options_in.ensures.options held.0 held.1 in
    record {
      asked = ok_asked c.options_in.result _ (options_asked words) Usage answer held.2;
      refused = err_asked c.options_in.result _ (options_asked words) Usage answer held.2 Usage;
      lone = λ some. absurd (true≢false (sym some ∙ none));
      ranges = c.options_in.ensures.ranges;
    }
