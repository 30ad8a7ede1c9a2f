use Rattle.heap_objects.proofs.objects.Objects.dead_are_few.Goals as goal

pub returns : goal.returns
returns c = λ from until. rw (← c.self.view_is) (c.dead_are_few.ensures.few from until c.self.invariant.laid)
