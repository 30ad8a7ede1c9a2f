use Rattle.page_words.proofs.bodywords.WordsBodywords.set_stop.Given as goal

abbrev pub ghost-set_stop : goal.ghost-set_stop
ghost-set_stop g a = g.roots
