use Rattle.std.proofs.Common.{◌∙◌, ap}
use Rattle.gc_graph.specs.History.{replay}
use Rattle.gc_graph.specs.LawfulLaw.{LawfulHistoryIsTold}
use Rattle.gc_graph.proofs.Histories.{runs_are_replayed}
use Rattle.gc_graph.proofs.JoinLaws.{entries_are_told_once}
use Rattle.gc_graph.proofs.laws_of_threads.lawful_history_is_told.Goals as goal

lawful_history_is_told : LawfulHistoryIsTold
lawful_history_is_told setup commands outcomes history lawful = record {
  told = lawful.pieces ∙ entries_are_told_once setup commands outcomes lawful.run;
  legal = lawful.legal;
  slots = ap replay lawful.pieces ∙ (runs_are_replayed setup commands outcomes lawful.run).slots;
}

pub returns : goal.returns
returns c = lawful_history_is_told
