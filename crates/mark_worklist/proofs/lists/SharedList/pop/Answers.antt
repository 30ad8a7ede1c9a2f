use Rattle.std.proofs.Common.{rules, ◌≡◌, ◌<◌, length, false, set, get_or, None, sym, subst, ap, ap₂, ◌∙◌, arith}
use Rattle.std.proofs.lemmas.List.{length-set, get_or_default}
use Rattle.mark_worklist.specs.Hands.{HasLeft, WasEmpty}
use Rattle.mark_worklist.specs.Shares.{ShareState}
use Rattle.mark_worklist.specs.Families.{at, nobody}
use Rattle.mark_worklist.specs.Joining.{with_own_taken, IsPopped, TookOne}
use Rattle.mark_worklist.proofs.Popped.{popped-none, popped-one, same-list-yet}
use Rattle.mark_worklist.proofs.Wholes.{stays, one-more_empty, first-noted}
use Rattle.mark_worklist.proofs.lists.SharedList.pop.Goals as goal
use Rattle.mark_worklist.proofs.lists.SharedList.pop.Goals.{After-self-in-Some-1}

pub loop-i-preserved : goal.loop-i-preserved
loop-i-preserved c =
    let inv = c.loop-i.invariant in
    let old = c.self.inside.family.items in
    let now = c.loop-i.self-inside.family.items in
    let x = c.index_mut.result.now in
    let none = c.in_default.ensures.taken in
    let here : x ≡ get_or old c.loop-i.i x = c.index_mut.ensures.value ∙ ap (λ l. get_or l c.loop-i.i x) inv.same in
    record {
      end = inv.end;
      same = stays old now c.loop-i.i x c.take.new.self inv.same c.index_mut.ensures.value none.0;
      room = inv.room;
      looked = one-more_empty old c.loop-i.i x here (search rules) none.1 inv.looked;
    }

pub invariant_of-self : goal.invariant_of-self
invariant_of-self c =
    let inv = c.loop-i.invariant in
    let now = c.loop-i.self-inside.family.items in
    let e = c.take.new.self in
    let within : c.loop-i.i < length now = search rules in
    let n = length-set now c.loop-i.i e in
    let m = length-set (set now c.loop-i.i e) 0 c.wake.new.self in
    (omega (arith, within, n, m), omega (arith, c.self.invariant.1, inv.room))

-- one item of one of the lists was taken
abbrev took : (c : After-self-in-Some-1) → TookOne c.args.self.now c.in-Some.a (set (set c.loop-i.self-inside.family.items c.loop-i.i c.take.new.self) 0 c.wake.new.self)
took c =
    let inv = c.loop-i.invariant in
    let old = c.args.self.now in
    let view : c.self.inside.family.items ≡ old = search rules in
    let now = c.loop-i.self-inside.family.items in
    let same : now ≡ old = inv.same ∙ view in
    let i = c.loop-i.i in
    let a = c.in-Some.a in
    let x = c.index_mut.result.now in
    let e = c.take.new.self in
    let y = c.index_mut-in-Some.result.now in
    let within : i < length old = subst (λ l. i < length l) same (search rules) in
    let x-is : x ≡ at old i = c.index_mut.ensures.value ∙ ap (λ l. get_or l i x) same ∙ get_or_default old i x nobody within in
    let e-is : e ≡ with_own_taken (at old i) a = c.in-Some.ensures.taken ∙ ap (λ s. with_own_taken s a) x-is in
    let stepped : set now i e ≡ set old i (with_own_taken (at old i) a) = ap₂ (λ l s. set l i s) same e-is in
    let some : 0 < length (set now i e) = search rules in
    let y-is : y ≡ at (set now i e) 0 = c.index_mut-in-Some.ensures.value ∙ get_or_default (set now i e) 0 y nobody some in
    let w-is = c.wake.ensures ∙ ap (λ (s : ShareState). record s { pop_found_none = false; steal_found_none = false }) (y-is ∙ ap (λ l. at l 0) stepped) in
    let all = ap₂ (λ l s. set l 0 s) stepped w-is in
    record { place = i; within = within; all = all }

pub returns-in-Some-clause-left : goal.returns-in-Some-clause-left
returns-in-Some-clause-left c = λ joined known.
    let t = took c in
    let x = c.index_mut.result.now in
    let e = c.take.new.self in
    let x-is : x ≡ at c.args.self.now c.loop-i.i = c.index_mut.ensures.value
    ∙ ap (λ l. get_or l c.loop-i.i x) (c.loop-i.invariant.same ∙ search rules) ∙ get_or_default c.args.self.now c.loop-i.i x nobody t.within in
    let left : HasLeft e.own.hand = c.in-Some.ensures.left (ap (λ s. s.own.hand.parts) x-is ∙ joined.whole c.loop-i.i nobody t.within) in
    let e-is : e ≡ with_own_taken (at c.args.self.now c.loop-i.i) c.in-Some.a = c.in-Some.ensures.taken ∙ ap (λ s. with_own_taken s c.in-Some.a) x-is in
    popped-one c.args.self.now _ c.in-Some.a t joined known (subst (λ (s : ShareState). HasLeft s.own.hand) e-is left)

pub returns-in-Some-clause-same : goal.returns-in-Some-clause-same
returns-in-Some-clause-same c = same-list-yet c.args.self.now _ c.in-Some.a (took c)

pub returns-clause-taken : goal.returns-clause-taken
returns-clause-taken c =
    let inv = c.loop-i.invariant in
    let old = c.args.self.now in
    let now = c.loop-i.self-inside.family.items in
    let view : c.self.inside.family.items ≡ old = search rules in (
      first-noted old now c.index_mut-2.result.now c.note_no_pop.new.self (inv.same ∙ view) (search rules) c.index_mut-2.ensures.value c.note_no_pop.ensures,
      λ k d l. subst (λ s. WasEmpty (get_or s k d).own.hand) view (inv.looked k d (search rules)),
    )

pub returns-clause-left : goal.returns-clause-left
returns-clause-left c = λ joined known.
    let inv = c.loop-i.invariant in
    let old = c.args.self.now in
    let now = c.loop-i.self-inside.family.items in
    let view : c.self.inside.family.items ≡ old = search rules in
    let some : 0 < length old = search rules in
    let is = first-noted old now c.index_mut-2.result.now c.note_no_pop.new.self (inv.same ∙ view) (search rules) c.index_mut-2.ensures.value c.note_no_pop.ensures in
    subst (IsPopped old None) (sym is) (popped-none old some joined known (λ k d l. subst (λ s. WasEmpty (get_or s k d).own.hand) view (inv.looked k d (search rules))))
