use Rattle.page_space.specs.Occupying.{new_body}
use Rattle.page_space.proofs.space.Space.write_object.Given as goal

abbrev pub ghost-head_and_publish : goal.ghost-head_and_publish
ghost-head_and_publish a = new_body a.a a.ty a.size a.serial
