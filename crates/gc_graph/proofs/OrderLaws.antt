-- What a thread has done is what its orders say.
use Rattle.std.proofs.Common.{◌≡◌, ℕ, zero, suc, length, List, [], ◌∷◌, ◌++◌, map, filter, take, Option, Some, None, refl, sym, ap, ◌∙◌, subst, inl, inr}
use Rattle.std.specs.Prelude.{⊤}
use Rattle.gc_graph.specs.declared.command.Order.{Order}
use Rattle.gc_graph.specs.declared.command.Order.TheVariants as Q
use Rattle.gc_graph.specs.declared.region.Entry.{Entry}
use Rattle.gc_graph.specs.declared.region.Op.{Op}
use Rattle.gc_graph.specs.declared.region.Reply.TheVariants as P
use Rattle.gc_graph.specs.State.{empty_state}
use Rattle.gc_graph.specs.Outcomes.{took}
use Rattle.gc_graph.specs.RegionSteps.{Answer, op_of, entry_of, AnswersOrder, HasDone, reply_line, queue_of}
use Rattle.gc_graph.specs.RegionSteps.Answer.{Replied, Told}
use Rattle.gc_graph.specs.Lawful.{last_state}
use Rattle.gc_graph.specs.JoinLaw.{is_answer_of, entries_in}
use Rattle.gc_graph.specs.OrderLaw.{Does, made_by, orders_done, AreDoneBy, JoinedDidTheirOrders, AreDoneInTurn, RunningDoTheirOrders}
use Rattle.gc_graph.proofs.JoinLines.{up_from, all_told}
use Rattle.gc_graph.proofs.JoinLaws.{parts_of, join_entries}

-- ---- one order

abbrev DoesSome : Order → Option Op → Type 0
DoesSome order None = ⊤
DoesSome order (Some op) = Does order op

own_op : (order : Order) → DoesSome order (op_of order)
own_op (Q.Copy x y) = (refl, refl)
own_op (Q.Clear x) = refl
own_op (Q.Weaken x) = refl
own_op (Q.Upgrade x y) = (refl, refl)
own_op Q.Totals = tt

first_done : (j : ℕ) (order : Order) (orders : List Order) (op : Option Op) (answer : Answer) (answers : List Answer) (entries : List Entry) → DoesSome order op
    → AnswersOrder op answer → AreDoneBy (orders_done orders (map (reply_line j) answers)) entries
    → AreDoneBy (orders_done (order ∷ orders) (map (reply_line j) (answer ∷ answers))) (entry_of j op answer ++ entries)
first_done j order orders (Some op) (Replied P.NoMemory) answers entries does a h = h
first_done j order orders (Some op) (Replied P.Done) answers entries does a h = (does, h)
first_done j order orders (Some op) (Replied P.Null) answers entries does a h = (does, h)
first_done j order orders (Some op) (Replied (P.Node n)) answers entries does a h = (does, h)
first_done j order orders (Some op) (Told o n u f) answers entries does a h = absurd a
first_done j order orders None (Replied reply) answers entries does a h = absurd a
first_done j order orders None (Told o n u f) answers entries does a h = h

first_in_turn : (j : ℕ) (order : Order) (orders : List Order) (op : Option Op) (answer : Answer) (entries : List Entry) → DoesSome order op
    → AreDoneInTurn orders entries → AreDoneInTurn (order ∷ orders) entries → AreDoneInTurn (order ∷ orders) (entry_of j op answer ++ entries)
first_in_turn j order orders (Some op) (Replied P.NoMemory) entries does h skipped = skipped
first_in_turn j order orders (Some op) (Replied P.Done) entries does h skipped = inl (does, h)
first_in_turn j order orders (Some op) (Replied P.Null) entries does h skipped = inl (does, h)
first_in_turn j order orders (Some op) (Replied (P.Node n)) entries does h skipped = inl (does, h)
first_in_turn j order orders (Some op) (Told o n u f) entries does h skipped = skipped
first_in_turn j order orders None answer entries does h skipped = skipped

-- ---- all orders of a thread

all_done : (j : ℕ) (orders : List Order) (answers : List Answer) (entries : List Entry) → HasDone j orders answers entries
    → AreDoneBy (orders_done orders (map (reply_line j) answers)) entries
all_done j [] [] entries h = subst (AreDoneBy []) (sym h) tt
all_done j (order ∷ orders) (answer ∷ answers) entries h =
    subst (AreDoneBy (orders_done (order ∷ orders) (map (reply_line j) (answer ∷ answers)))) (sym h.2)
    (first_done j order orders (op_of order) answer answers h.0 (own_op order) h.1 (all_done j orders answers h.0 h.3))
all_done j [] (answer ∷ answers) entries h = absurd h
all_done j (order ∷ orders) [] entries h = absurd h

pub joined_did_their_orders : JoinedDidTheirOrders
joined_did_their_orders setup old new piece lines j threads h c =
    let answered : filter (is_answer_of j) lines ≡ map (reply_line j) (h.answers j) =
    ap (filter (is_answer_of j)) h.lines_are ∙ parts_of j h.answers old.running (took old piece).unprinted (length old.running)
    ∙ all_told h.answers j old.running (up_from old.running threads.ascending) c in
    subst (λ ls. AreDoneBy (orders_done (queue_of old j) ls) (made_by j (entries_in lines))) (sym answered)
    (subst (λ es. AreDoneBy (orders_done (queue_of old j) (map (reply_line j) (h.answers j))) (made_by j es)) (sym (join_entries old new piece lines h))
    (all_done j (queue_of old j) (h.answers j) _ (h.done j c)))

skip_one : (order : Order) (orders : List Order) (entries : List Entry) → AreDoneInTurn orders entries → AreDoneInTurn (order ∷ orders) entries
skip_one order orders [] h = tt
skip_one order orders (entry ∷ entries) h = inr h

none_done : (orders : List Order) (entries : List Entry) → entries ≡ [] → AreDoneInTurn orders entries
none_done orders entries e = subst (AreDoneInTurn orders) (sym e) tt

some_done : (j n : ℕ) (orders : List Order) (answers : List Answer) (entries : List Entry) → HasDone j (take n orders) answers entries → AreDoneInTurn orders entries
some_done j zero orders [] entries h = none_done orders entries h
some_done j zero orders (answer ∷ answers) entries h = absurd h
some_done j (suc n) [] [] entries h = none_done [] entries h
some_done j (suc n) [] (answer ∷ answers) entries h = absurd h
some_done j (suc n) (order ∷ orders) [] entries h = absurd h
some_done j (suc n) (order ∷ orders) (answer ∷ answers) entries h =
    let rest : AreDoneInTurn orders h.0 = some_done j n orders answers h.0 h.3 in
    subst (AreDoneInTurn (order ∷ orders)) (sym h.2)
    (first_in_turn j order orders (op_of order) answer h.0 (own_op order) rest (skip_one order orders h.0 rest))

pub running_do_their_orders : RunningDoTheirOrders
running_do_their_orders setup commands outcomes history j lawful c =
    let w = lawful.unjoined j c in
    some_done j w.0 (queue_of (last_state empty_state outcomes) j) w.1 (made_by j (last_state empty_state outcomes).unprinted) w.2
