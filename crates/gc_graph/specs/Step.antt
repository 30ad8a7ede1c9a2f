-- What each command does: a relation between the state before, the piece of the region's history that the command takes,
-- the lines that it prints, and the state after.
use Rattle.std.specs.Prelude.{◌≡◌, List, [], None}
use Rattle.gc_graph.specs.declared.command.Command.{Command}
use Rattle.gc_graph.specs.declared.command.Command.TheVariants as C
use Rattle.gc_graph.specs.declared.kind.Value.TheVariants.{Null}
use Rattle.gc_graph.specs.declared.line.Line.{Line}
use Rattle.gc_graph.specs.declared.region.Entry.{Entry}
use Rattle.gc_graph.specs.State.{Setup, State}
use Rattle.gc_graph.specs.Fields.{content_of}
use Rattle.gc_graph.specs.Outcomes.{slot_at}
use Rattle.gc_graph.specs.ObjectSteps.{StepNew, StepSet, StepPair, StepPut, StepWord, StepGet, StepKey, StepVal}
use Rattle.gc_graph.specs.HandleSteps.{StepCopy, StepDrop, StepWeak, StepRead, StepPush, StepPushPlain, StepPop, StepPeek}
use Rattle.gc_graph.specs.CycleSteps.{StepGcStart, StepGcStep, StepGcFinish, StepGcNow, StepSweep, StepSweepAll, StepStat}
use Rattle.gc_graph.specs.RegionSteps.{StepExport, StepImport, StepAt, StepThreadsGo, StepThreadsJoin}

-- one command; most take nothing of the history
abbrev pub Step : Setup → State → Command → List Entry → List Line → State → Type 0
Step setup old (C.New p t e) piece lines new = (piece ≡ []) × StepNew setup old p t e lines new
Step setup old (C.Set p f q) piece lines new = (piece ≡ []) × StepSet old p f (content_of (slot_at old q)) lines new
Step setup old (C.SetNull p f) piece lines new = (piece ≡ []) × StepSet old p f Null lines new
Step setup old (C.Pair p f k v) piece lines new = (piece ≡ []) × StepPair old p f (slot_at old k) (slot_at old v) lines new
Step setup old (C.PairNull p f) piece lines new = (piece ≡ []) × StepPair old p f None None lines new
Step setup old (C.Put p f n) piece lines new = (piece ≡ []) × StepPut old p f n lines new
Step setup old (C.Word p f) piece lines new = (piece ≡ []) × StepWord old p f lines new
Step setup old (C.Get p f q) piece lines new = (piece ≡ []) × StepGet old p f q lines new
Step setup old (C.Key p f q) piece lines new = (piece ≡ []) × StepKey old p f q lines new
Step setup old (C.Val p f q) piece lines new = (piece ≡ []) × StepVal old p f q lines new
Step setup old (C.Copy p q) piece lines new = (piece ≡ []) × StepCopy old p q lines new
Step setup old (C.Drop p) piece lines new = (piece ≡ []) × StepDrop old p lines new
Step setup old (C.Weak w p) piece lines new = (piece ≡ []) × StepWeak old w p lines new
Step setup old (C.Read w p) piece lines new = (piece ≡ []) × StepRead old w p lines new
Step setup old (C.Push p o) piece lines new = (piece ≡ []) × StepPush old p o lines new
Step setup old (C.PushPlain n) piece lines new = (piece ≡ []) × StepPushPlain old n lines new
Step setup old C.Pop piece lines new = (piece ≡ []) × StepPop old lines new
Step setup old (C.Peek i q) piece lines new = (piece ≡ []) × StepPeek old i q lines new
Step setup old C.GcStart piece lines new = StepGcStart setup old piece lines new
Step setup old (C.GcStep n) piece lines new = (piece ≡ []) × StepGcStep old n lines new
Step setup old (C.GcFinish want) piece lines new = StepGcFinish setup want old piece lines new
Step setup old (C.GcNow want) piece lines new = StepGcNow setup want old piece lines new
Step setup old (C.Sweep n) piece lines new = (piece ≡ []) × StepSweep setup old n lines new
Step setup old C.SweepAll piece lines new = (piece ≡ []) × StepSweepAll setup old lines new
Step setup old C.Stat piece lines new = (piece ≡ []) × StepStat setup old lines new
Step setup old (C.Export p x) piece lines new = StepExport old p x piece lines new
Step setup old (C.Import x p) piece lines new = StepImport old x p piece lines new
Step setup old (C.At j order) piece lines new = (piece ≡ []) × StepAt old j order lines new
Step setup old C.ThreadsGo piece lines new = (piece ≡ []) × StepThreadsGo old lines new
Step setup old C.ThreadsJoin piece lines new = StepThreadsJoin old piece lines new
