use Rattle.std.proofs.Common.{◌∙◌, sym, ap, subst}
use Rattle.callback_table.specs.Bodies.{StandsAt}
use Rattle.gc_graph.specs.WeakCalls.{shown_under}
use Rattle.callback_table.proofs.Answering.{does}
use Rattle.callback_table.proofs.masked.run.Goals as goal

pub returns-clause-nodes : goal.returns-clause-nodes
returns-clause-nodes g c =
    let stands : StandsAt (g.B.Bodies.nodes c.words-count.new.self) c.args.entry.place c.args.entry.node =
    subst (λ nodes. StandsAt nodes c.args.entry.place c.args.entry.node) (sym c.words-count.ensures.nodes) c.requires.registered.stands in
    c.apply.ensures.nodes c.args.entry.node stands
    ∙ does _ _ _ _ _ _ _ c.words-count.ensures.nodes c.call-action.ensures
    (c.show_under.ensures ∙ ap (shown_under c.args.mask) (c.words-count.ensures.words c.args.entry.node c.requires.registered.stands))
