-- Weak callbacks run from the first registration to the last, so far.
use Rattle.std.proofs.Common.{◌≡◌, ℕ, ◌+◌, ◌<◌, ◌≤◌, ◌==◌, Bool, true, false, List, [], ◌∷◌, ◌++◌, All, length, get_or, take, map, cond, sym, ap, ◌∙◌, subst, append_assoc, arith, length-append}
use Rattle.std.specs.List.{sum_by}
use Rattle.std.proofs.lemmas.List.{map-append, map_push, take_more, flat_map_more, get_or-map, length-map}
use Rattle.std.proofs.lemmas.List.Sums.{sum_by_more}
use Rattle.gc_graph.specs.declared.action.ActionKind.{ActionKind}
use Rattle.gc_graph.specs.State.{Node}
use Rattle.callback_table.specs.declared.weak_registry.WeakRegistered.{WeakRegistered}
use Rattle.gc_graph.specs.WeakCalls.{WeakCall, weak_call, called}
use Rattle.callback_table.specs.Registry.{IsRegistered}
use Rattle.callback_table.specs.WeakRegistry.{pair_called, WeakRegistration, weak_registration_of, weak_registrations_of, calls_of, calls_in_order, IsWeaklyRegistered}
use Rattle.callback_table.proofs.Asked.{callback_count}
use Rattle.callback_table.proofs.Looks.{LooksAlike, stands_alike}
use Rattle.callback_table.proofs.Masking.{called-append, called_alike}

-- these calls were made, and are told behind those before
pub record AreMade (kinds : List ActionKind) (start : List Node) (before : List (ℕ × ℕ)) (calls : List WeakCall) (nodes : List Node)
    (ran : List (ℕ × ℕ)) : Type 0 where
  pub nodes_are : nodes ≡ called kinds calls start
  pub ran_are : ran ≡ before ++ map pair_called calls

pub made_on : (kinds : List ActionKind) (start : List Node) (before : List (ℕ × ℕ)) (calls more all : List WeakCall) (nodes after : List Node)
    (ran ran_then : List (ℕ × ℕ)) → AreMade kinds start before calls nodes ran → after ≡ called kinds more nodes
    → ran_then ≡ ran ++ map pair_called more → all ≡ calls ++ more → AreMade kinds start before all after ran_then
made_on kinds start before calls more all nodes after ran ran_then made does told are = record {
  nodes_are =
      does ∙ ap (called kinds more) made.nodes_are ∙ sym (called-append kinds calls more start) ∙ ap (λ cs. called kinds cs start) (sym are);
  ran_are =
      told ∙ ap (λ front. front ++ map pair_called more) made.ran_are ∙ append_assoc before (map pair_called calls) (map pair_called more)
      ∙ ap (λ back. before ++ back) (sym (ap (map pair_called) are ∙ map-append pair_called calls more));
}

-- ---- the callbacks of one registration

pub callbacks_more : (node mask : ℕ) (callbacks : List ℕ) (i callback : ℕ) → i < length callbacks → callback ≡ get_or callbacks i 0
    → map (weak_call node mask) (take (i + 1) callbacks) ≡ map (weak_call node mask) (take i callbacks) ++ weak_call node mask callback ∷ []
callbacks_more node mask callbacks i callback within read =
    ap (map (weak_call node mask)) (take_more callbacks i 0 within)
    ∙ map_push (weak_call node mask) (take i callbacks) (get_or callbacks i 0)
    ∙ ap (λ c. map (weak_call node mask) (take i callbacks) ++ weak_call node mask c ∷ []) (sym read)

few_calls : (b : Bool) (f : ℕ → WeakCall) (callbacks : List ℕ) → length (cond b [] (map f callbacks)) ≤ length callbacks
few_calls true f callbacks = omega arith
few_calls false f callbacks = omega (arith, length-map callbacks f)

-- ---- one more registration

pub calls_more : (items : List WeakRegistered) (i : ℕ) (entry : WeakRegistered) → i < length items → entry ≡ get_or items i entry
    → calls_in_order (weak_registrations_of (take (i + 1) items))
    ≡ calls_in_order (weak_registrations_of (take i items)) ++ calls_of (weak_registration_of entry)
calls_more items i entry within read =
    ap (λ es. calls_in_order (weak_registrations_of es)) (take_more items i entry within)
    ∙ ap calls_in_order (map_push weak_registration_of (take i items) (get_or items i entry))
    ∙ sym (flat_map_more calls_of [] (weak_registrations_of (take i items)) (weak_registration_of (get_or items i entry)))
    ∙ ap (λ e. calls_in_order (weak_registrations_of (take i items)) ++ calls_of (weak_registration_of e)) (sym read)

-- the callbacks of the registration at i run after those of the ones before it
pub one_more_run : (kinds : List ActionKind) (start nodes after : List Node) (items : List WeakRegistered) (i : ℕ) (entry : WeakRegistered)
    (ran ran_then : List (ℕ × ℕ)) → i < length items → entry ≡ get_or items i entry
    → AreMade kinds start [] (calls_in_order (weak_registrations_of (take i items))) nodes ran
    → after ≡ called kinds (calls_of (weak_registration_of entry)) nodes → ran_then ≡ ran ++ map pair_called (calls_of (weak_registration_of entry))
    → AreMade kinds start [] (calls_in_order (weak_registrations_of (take (i + 1) items))) after ran_then
one_more_run kinds start nodes after items i entry ran ran_then within read made does told =
    made_on kinds start [] _ (calls_of (weak_registration_of entry)) _ nodes after ran ran_then made does told (calls_more items i entry within read)

-- no more run than are registered
pub fewer_run : (items : List WeakRegistered) (i : ℕ) (entry : WeakRegistered) (ran ran_then : List (ℕ × ℕ)) → i < length items
    → entry ≡ get_or items i entry → length ran ≤ sum_by callback_count (take i items)
    → ran_then ≡ ran ++ map pair_called (calls_of (weak_registration_of entry)) → length ran_then ≤ sum_by callback_count (take (i + 1) items)
fewer_run items i entry ran ran_then within read few told =
    let few_more : length (calls_of (weak_registration_of entry)) ≤ callback_count entry =
    few_calls (entry.mask == 0) (weak_call entry.node entry.mask) entry.callbacks.items in
    let as_many : callback_count entry ≡ callback_count (get_or items i entry) = ap callback_count read in
    omega (
      arith,
      ap length told,
      length-append ran (map pair_called (calls_of (weak_registration_of entry))),
      length-map (calls_of (weak_registration_of entry)) pair_called,
      sum_by_more callback_count items i entry within,
    )

-- ---- what is known of registrations stays known

pub registered_at : (IsKnown : WeakRegistration → Type 0) (items : List WeakRegistered) (i : ℕ) (entry : WeakRegistered) → i < length items
    → entry ≡ get_or items i entry → All IsKnown (weak_registrations_of items) → IsKnown (weak_registration_of entry)
registered_at IsKnown items i entry within read all =
    subst IsKnown (get_or-map weak_registration_of items i entry (weak_registration_of entry) within ∙ ap weak_registration_of (sym read))
    (all i (weak_registration_of entry) (omega (arith, length-map items weak_registration_of)))

pub weakly_registered_now : (kinds : List ActionKind) (callbacks : ℕ) (start nodes : List Node) (before ran : List (ℕ × ℕ)) (calls : List WeakCall)
    (entry : WeakRegistration) → AreMade kinds start before calls nodes ran → IsWeaklyRegistered start callbacks entry
    → IsWeaklyRegistered nodes callbacks entry
weakly_registered_now kinds callbacks start nodes before ran calls entry made then = record {
  stands = stands_alike start nodes entry.place entry.node (subst (LooksAlike start) (sym made.nodes_are) (called_alike kinds calls start)) then.stands;
  known = then.known;
}

pub registered_of : (nodes : List Node) (callbacks : ℕ) (entry : WeakRegistration) (i callback : ℕ) → i < length entry.callbacks
    → callback ≡ get_or entry.callbacks i 0 → IsWeaklyRegistered nodes callbacks entry
    → IsRegistered nodes callbacks (record { node = entry.node; place = entry.place; callback = callback })
registered_of nodes callbacks entry i callback within read there = record {
  stands = there.stands;
  known = subst (λ c. c < callbacks) (sym read) (there.known i 0 within);
}
