use Rattle.std.proofs.Common.{get_or, below_more}
use Rattle.std.proofs.lemmas.List.{get_or_read}
use Rattle.gc_graph.specs.State.{no_type}
use Rattle.type_table.specs.Faults.{called_of, names_none}
use Rattle.type_table.proofs.Unknown.{first_at, first_nowhere, found_in, none_in, same_found}
use Rattle.type_table.proofs.faults.unknown_of.Goals as goal

pub returns-in-Some : goal.returns-in-Some
returns-in-Some c =
    let at = get_or_read c.args.types.now c.loop-ty.ty c.index-types-ty.result c.loop-ty-test.true c.index-types-ty.is no_type in
    let found = same_found c.args.callbacks _ _ _ at c.in-Some.ensures in (
      first_at (names_none c.args.callbacks) c.args.types.now c.loop-ty.ty no_type c.loop-ty-test.true c.loop-ty.invariant
          (found_in c.args.callbacks (called_of (get_or c.args.types.now c.loop-ty.ty no_type)) c.in-Some.callback found),
      found,
    )

pub loop-ty-preserved : goal.loop-ty-preserved
loop-ty-preserved c =
    let at = get_or_read c.args.types.now c.loop-ty.ty c.index-types-ty.result c.loop-ty-test.true c.index-types-ty.is no_type in
    let found = same_found c.args.callbacks _ _ _ at c.in-None.ensures in
    below_more _ _ c.loop-ty.invariant (none_in c.args.callbacks (called_of (get_or c.args.types.now c.loop-ty.ty no_type)) found)

pub returns : goal.returns
returns c = first_nowhere _ _ c.loop-ty.ty no_type c.loop-ty-test.false c.loop-ty.invariant
