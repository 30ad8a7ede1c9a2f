use Rattle.std.proofs.Common.{rules, ◌≡◌, sym, subst}
use Rattle.marker_core.specs.declared.states.CoreState.{CoreState}
use Rattle.marker_core.specs.Core.{IsCoreOk}
use Rattle.marker_core.specs.Idle.{idle_state}
use Rattle.core_steps.proofs.idle.idle_state.Goals as goal

pub returns-clause-ok : goal.returns-clause-ok
returns-clause-ok c =
    let same : ◌≡◌ {A = CoreState} (record {
      count = c.args.count;
      types = c.args.types;
      words = c.from.result;
      mutator = c.idle_view.result;
      markers = c.new.result;
    }) (idle_state c.args.count c.args.types) = search rules in
    subst IsCoreOk (sym same) (c.idle_is_ok.ensures c.args.count c.args.types c.ranges.count.fits c.requires.bits c.requires.types)
