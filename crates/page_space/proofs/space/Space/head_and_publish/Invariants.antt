use Rattle.page_space.proofs.space.Space.head_and_publish.Given as goal

abbrev pub ghost-publish : goal.ghost-publish
ghost-publish g a = g.body
