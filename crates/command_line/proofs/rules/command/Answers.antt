use Rattle.std.proofs.Common.{rules, ap, ap₂, codes, true, ◌≡◌, ◌∙◌}
use Rattle.std.proofs.lemmas.Result.{IfOk-weaker}
use Rattle.clap.specs.Words.{rule_of}
use Rattle.clap.specs.Simple.{App, app_of, app_of_fields, new_app, on_top, with_rule}
use Rattle.command_line.specs.ClapRules.{option_rule, summary_rule}
use Rattle.command_line.proofs.rules.command.Goals as goal

abbrev no_name : App → App
no_name = on_top (λ s. record s { no_binary_name = true })

abbrev no_help : App → App
no_help = on_top (λ s. record s { disable_help_flag = true })

abbrev bare : App
bare = no_help (no_name (new_app (codes "cppgc_main")))

abbrev with_pages : App
with_pages = with_rule bare (option_rule (codes "pages"))

abbrev with_words : App
with_words = with_rule with_pages (option_rule (codes "page-words"))

abbrev with_markers : App
with_markers = with_rule with_words (option_rule (codes "markers"))

abbrev with_summary : App
with_summary = with_rule with_markers summary_rule

abbrev with_seed : App
with_seed = with_rule with_summary (option_rule (codes "generate"))

pub returns : goal.returns
returns c =
    let start : app_of c.disable_help_flag.result ≡ bare =
    ap app_of_fields c.disable_help_flag.ensures ∙ ap no_help (ap app_of_fields c.no_binary_name.ensures ∙ ap no_name c.new-2.ensures.app) in
    let summary_is : rule_of c.action-summary.result ≡ summary_rule = search rules in
    let pages : app_of c.in_ok-arg.field-0 ≡ with_pages = c.in_ok-arg.ensures.shape c.option.ensures.local ∙ ap₂ with_rule start c.option.ensures.rule in
    let page_words : app_of c.in_ok-arg-2.field-0 ≡ with_words = c.in_ok-arg-2.ensures.shape c.option-2.ensures.local ∙ ap₂ with_rule pages c.option-2.ensures.rule in
    let markers : app_of c.in_ok-arg-3.field-0 ≡ with_markers = c.in_ok-arg-3.ensures.shape c.option-3.ensures.local ∙ ap₂ with_rule page_words c.option-3.ensures.rule in
    let summary : app_of c.in_ok-arg-4.field-0 ≡ with_summary = c.in_ok-arg-4.ensures.shape (search rules) ∙ ap₂ with_rule markers summary_is in
    let seed : app_of c.in_ok-arg-5.field-0 ≡ with_seed = c.in_ok-arg-5.ensures.shape c.option-4.ensures.local ∙ ap₂ with_rule summary c.option-4.ensures.rule in
    IfOk-weaker c.arg-6.result _ _ (λ r adds. adds.shape c.option-5.ensures.local ∙ ap₂ with_rule seed c.option-5.ensures.rule) c.arg-6.ensures
