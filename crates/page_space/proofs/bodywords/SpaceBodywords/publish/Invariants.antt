use Rattle.page_space.proofs.bodywords.SpaceBodywords.publish.Given as goal

abbrev pub ghost-publish : goal.ghost-publish
ghost-publish g a = g.body
