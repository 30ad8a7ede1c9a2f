use Rattle.heap_roots.proofs.handles.Handles.begin.Given as goal

abbrev pub ghost-begin : goal.ghost-begin
ghost-begin g a = g.roots
