use Rattle.std.proofs.Common.{ap, sym, ◌∙◌, subst}
use Rattle.page_words.specs.Seat.{SeatView, OnlyLooked}
use Rattle.prefinalizer_effects.specs.Acting.{BodiesAreTyped, AreLinked, body_cleared_at, body_added_at, changed_at}
use Rattle.prefinalizer_effects.proofs.BodiesKept.{clearing_keeps, adding_keeps, typed_kept, links_kept}
use Rattle.page_words.specs.Looking.{looks_on}
use Rattle.prefinalizer_effects.proofs.acting.apply.Goals as goal

pub clear-requires-clause-typed : goal.clear-requires-clause-typed
clear-requires-clause-typed c = subst BodiesAreTyped (sym c.linked_from.ensures.view) c.requires.typed

pub add-requires-clause-typed : goal.add-requires-clause-typed
add-requires-clause-typed c = subst BodiesAreTyped (sym c.linked_from-in-Add.ensures.view) c.requires.typed

is_cleared : (c : goal.After-clear)
    → OnlyLooked (changed_at c.args.seat.now c.in-Some.named (body_cleared_at c.args.seat.now.types c.in-Clear.field)) c.clear.new.seat
is_cleared c = c.clear.ensures.changed ∙ ap (λ (v : SeatView). changed_at v c.in-Some.named (body_cleared_at v.types c.in-Clear.field)) c.linked_from.ensures.view

is_added : (c : goal.After-add)
    → OnlyLooked (changed_at c.args.seat.now c.in-Some-linked_from.named (body_added_at c.args.seat.now.types c.in-Add.field c.in-Add.amount)) c.add.new.seat
is_added c =
    c.add.ensures.changed
    ∙ ap (λ (v : SeatView). changed_at v c.in-Some-linked_from.named (body_added_at v.types c.in-Add.field c.in-Add.amount)) c.linked_from-in-Add.ensures.view

pub returns-in-Some-clause-typed : goal.returns-in-Some-clause-typed
returns-in-Some-clause-typed c =
    let v : SeatView = c.args.seat.now in
    subst BodiesAreTyped (sym (is_cleared c))
    (typed_kept v c.in-Some.named (body_cleared_at v.types c.in-Clear.field) (λ b _ _. clearing_keeps v.types v.bodies c.in-Clear.field b) c.requires.typed)

pub returns-in-Some-clause-links : goal.returns-in-Some-clause-links
returns-in-Some-clause-links c =
    let v : SeatView = c.args.seat.now in
    subst AreLinked (sym (is_cleared c))
    (links_kept v c.in-Some.named (body_cleared_at v.types c.in-Clear.field) (λ b _ _. clearing_keeps v.types v.bodies c.in-Clear.field b) c.requires.links)

pub returns-in_default-clause-typed : goal.returns-in_default-clause-typed
returns-in_default-clause-typed c = subst BodiesAreTyped (sym c.linked_from.ensures.view) c.requires.typed

pub returns-in-Some-linked_from-clause-typed : goal.returns-in-Some-linked_from-clause-typed
returns-in-Some-linked_from-clause-typed c =
    let v : SeatView = c.args.seat.now in
    subst BodiesAreTyped (sym (is_added c))
    (typed_kept v c.in-Some-linked_from.named (body_added_at v.types c.in-Add.field c.in-Add.amount)
    (λ b _ _. adding_keeps v.types v.bodies c.fields_stand_apart.ensures c.in-Add.field c.in-Add.amount b) c.requires.typed)

pub returns-in-Some-linked_from-clause-links : goal.returns-in-Some-linked_from-clause-links
returns-in-Some-linked_from-clause-links c =
    let v : SeatView = c.args.seat.now in
    subst AreLinked (sym (is_added c))
    (links_kept v c.in-Some-linked_from.named (body_added_at v.types c.in-Add.field c.in-Add.amount)
    (λ b _ _. adding_keeps v.types v.bodies c.fields_stand_apart.ensures c.in-Add.field c.in-Add.amount b) c.requires.links)

pub returns-in_default-linked_from-clause-typed : goal.returns-in_default-linked_from-clause-typed
returns-in_default-linked_from-clause-typed c = subst BodiesAreTyped (sym c.linked_from-in-Add.ensures.view) c.requires.typed

pub returns-in-Some-clause-looked : goal.returns-in-Some-clause-looked
returns-in-Some-clause-looked c =
    looks_on c.args.seat.now c.linked_from.new.seat c.clear.new.seat c.linked_from.ensures.looked c.clear.ensures.looked

pub returns-in-Some-linked_from-clause-looked : goal.returns-in-Some-linked_from-clause-looked
returns-in-Some-linked_from-clause-looked c =
    looks_on c.args.seat.now c.linked_from-in-Add.new.seat c.add.new.seat c.linked_from-in-Add.ensures.looked c.add.ensures.looked
