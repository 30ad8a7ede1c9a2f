use Rattle.std.proofs.Common.{sym}
use Rattle.type_table.proofs.Unknown.{judged, narrow_of, unknown_told}
use Rattle.type_table.proofs.faults.fault_of.Goals as goal

pub over_words_of-requires-clause-narrow : goal.over_words_of-requires-clause-narrow
over_words_of-requires-clause-narrow c = narrow_of _ (sym c.in_default.ensures)

pub returns-in-Some-unknown_of : goal.returns-in-Some-unknown_of
returns-in-Some-unknown_of c =
    unknown_told _ _ _ c.if-types-gt-MOST_TYPES.false (sym c.in_default.ensures) c.in-Some-unknown_of.ensures

pub returns-in-None : goal.returns-in-None
returns-in-None c = judged _ _ _ c.if-types-gt-MOST_TYPES.false (sym c.in_default.ensures) c.in-None.ensures c.over_words_of.ensures
