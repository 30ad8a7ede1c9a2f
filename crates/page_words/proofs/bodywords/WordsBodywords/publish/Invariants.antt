use Rattle.page_words.proofs.bodywords.WordsBodywords.publish.Given as goal

abbrev pub ghost-publish : goal.ghost-publish
ghost-publish g a = g.body
