use Rattle.std.proofs.Common.{◌≤◌, length, sym, ◌∙◌, ap, subst, All}
use Rattle.std.specs.List.{position}
use Rattle.heap_engine.specs.Objects.{HaveCallbacks}
use Rattle.oilpan.specs.DeclaredTypes.{types_of}
use Rattle.oilpan.specs.TypesErrors.{is_overcalled}
use Rattle.oilpan.proofs.Limits.{HasNone, called, narrow_names, none_declared, none_over_words}
use Rattle.oilpan.proofs.types.Types.done.Goals as goal

pub new-requires-in-None-clause-narrow : goal.new-requires-in-None-clause-narrow
new-requires-in-None-clause-narrow c =
    subst (λ xs. All (λ o. length o.fields ≤ 64) xs) (sym c.in-Ok.ensures.1)
    (narrow_names _ (subst (λ xs. All (λ type. length type.kinds ≤ 64) xs) c.in-Ok.ensures.0 c.in-Ok-new.ensures.good.narrow))

pub returns-in-None-clause-called : goal.returns-in-None-clause-called
returns-in-None-clause-called c =
    subst (λ types. HaveCallbacks c.args.callbacks types) (c.in-Ok.ensures.0 ∙ ap types_of c.self.view_is)
    (called c.args.callbacks _ c.in-Ok-new.ensures.good
    (ap (position is_overcalled) (sym c.as_slice.ensures.value) ∙ sym c.first_overcalled-over.ensures ∙ c.in-None.is)
    (subst (λ types. All HasNone types) (sym c.in-Ok.ensures.0) (none_declared _)))

pub error_of-requires : goal.error_of-requires
error_of-requires c ty = none_over_words _ _ _ _ ty c.in-Ok.ensures.0 c.in-Err-new.ensures.fault
