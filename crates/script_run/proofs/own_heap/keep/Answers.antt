use Rattle.script_run.proofs.own_heap.keep.Goals as goal

pub returns : goal.returns
returns c j = cc
