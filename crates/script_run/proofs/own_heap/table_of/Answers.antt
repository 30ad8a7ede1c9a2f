use Rattle.std.proofs.Common.{subst}
use Rattle.type_table.specs.Faults.{IsTypeFault}
use Rattle.script_run.proofs.Runnable.{none_too_wide, none_unknown, none_over_words}
use Rattle.script_run.proofs.own_heap.table_of.Goals as goal

pub unreachable-requires-in-Err-TooManyFields : goal.unreachable-requires-in-Err-TooManyFields
unreachable-requires-in-Err-TooManyFields c =
    none_too_wide _ c.args.types.items c.in-Err-TooManyFields.field-0-0 c.requires
    (subst (IsTypeFault _ c.args.types.items) c.in-Err-TooManyFields.field-0-is c.in-Err-TooManyFields.ensures.fault)

pub unreachable-requires-in-Err-NoCallback : goal.unreachable-requires-in-Err-NoCallback
unreachable-requires-in-Err-NoCallback c =
    none_unknown _ c.args.types.items c.in-Err-NoCallback.field-0-0 c.in-Err-NoCallback.field-0-1 c.requires
    (subst (IsTypeFault _ c.args.types.items) c.in-Err-NoCallback.field-0-is c.in-Err-NoCallback.ensures.fault)

pub unreachable-requires-in-Err-TooManyWords : goal.unreachable-requires-in-Err-TooManyWords
unreachable-requires-in-Err-TooManyWords c =
    none_over_words _ c.args.types.items c.in-Err-TooManyWords.field-0-0 c.requires
    (subst (IsTypeFault _ c.args.types.items) c.in-Err-TooManyWords.field-0-is c.in-Err-TooManyWords.ensures.fault)
