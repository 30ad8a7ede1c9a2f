use Rattle.command_text.proofs.row_search.row_near.Given as goal

abbrev pub ghost-row_in : goal.ghost-row_in
ghost-row_in g a = g.test
