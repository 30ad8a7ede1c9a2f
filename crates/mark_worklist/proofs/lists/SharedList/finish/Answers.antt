use Rattle.std.proofs.Common.{rules, ◌≡◌, ◌<◌, ℕ, ◌++◌, List, false, min, length, sym, ap, ◌∙◌, subst, arith}
use Rattle.std.proofs.lemmas.List.{length-set, get_or-set_same, get_or_default}
use Rattle.std.proofs.lemmas.List.Elements.{All-set}
use Rattle.mark_worklist.specs.Hands.{HasLeft}
use Rattle.mark_worklist.specs.Shares.{ShareState, last_count}
use Rattle.mark_worklist.specs.Families.{at, nobody}
use Rattle.mark_worklist.specs.Joining.{put_by, EndsAreJoined, KnowLeft, LoseNothing, IsAllCounted, IsTakenOrLeft}
use Rattle.mark_worklist.proofs.Items.{same-items}
use Rattle.mark_worklist.proofs.Wholes.{as-many-put, all-taken, settled, settled-even, still-joined, still-taken}
use Rattle.mark_worklist.proofs.lists.SharedList.finish.Goals as goal
use Rattle.mark_worklist.proofs.lists.SharedList.finish.Goals.{After-self-1}

-- what is known of the shares once they are joined and counted
record Facts (all now : List ShareState) (s : ShareState) (left pushed refused : ℕ) : Type 0 where
  lose : LoseNothing all now
  joined : EndsAreJoined now
  some : 0 < length now
  is : s ≡ record (at now 0) { refused = refused; pop_found_none = false; steal_found_none = false }
  counted : (items : List ℕ) × (length items ≡ left) × IsAllCounted now items
  all_put : pushed ≡ length (put_by all)

facts : (c : After-self-1) → Facts (c.args.self.now ++ c.args.shares.items) c.count_left-left.new.family.items c.settle.new.self c.count_left-left.result c.count_pushed-pushed.result c.count_refused-refused.result
facts c =
    let all = c.args.self.now ++ c.args.shares.items in
    let joined = c.join_all.new.family.items in
    let now = c.count_left-left.new.family.items in
    let same : joined ≡ now = sym c.count_left-left.ensures.same in
    let view : c.self.inside.family.items ≡ c.args.self.now = search rules in
    let lose = subst (LoseNothing all) same (subst (λ l. LoseNothing (l ++ c.args.shares.items) joined) view c.join_all.ensures.same) in
    let some : 0 < length now = search rules in
    let left = c.count_left-left.ensures.left in
    record {
      lose = lose;
      joined = subst EndsAreJoined same c.join_all.ensures.joined;
      some = some;
      is = c.settle.ensures
          ∙ ap (λ (t : ShareState). record t { refused = c.count_refused-refused.result; pop_found_none = false; steal_found_none = false }) (c.index_mut.ensures.value ∙ get_or_default now 0 c.index_mut.result.now nobody some);
      counted = (left.0, left.1, subst (λ l. IsAllCounted l left.0) same left.2);
      all_put = c.count_pushed-pushed.ensures ∙ as-many-put all now lose;
    }

taken : (c : After-self-1) → IsTakenOrLeft (c.args.self.now ++ c.args.shares.items) (facts c).counted.0
taken c = let f = facts c in all-taken _ _ f.lose f.counted.0 f.counted.2

pub overflow_sub-result : goal.overflow_sub-result
overflow_sub-result c = let f = facts c in let t = taken c in omega (arith, f.all_put, f.counted.1, t.as_many)

pub invariant_of-self : goal.invariant_of-self
invariant_of-self c =
    let f = facts c in
    let now = c.count_left-left.new.family.items in
    let s = c.settle.new.self in
    (omega (arith, f.some, length-set now 0 s), omega (arith, c.count_left-left.ensures.room, c.join_all.ensures.room, c.self.invariant.1))

pub returns-clause-pushed : goal.returns-clause-pushed
returns-clause-pushed c = (facts c).all_put

pub returns-clause-taken : goal.returns-clause-taken
returns-clause-taken c = let f = facts c in let t = taken c in omega (arith, f.all_put, f.counted.1, t.as_many)

pub returns-clause-left : goal.returns-clause-left
returns-clause-left c =
    let f = facts c in
    let now = c.count_left-left.new.family.items in
    let items = f.counted.0 in (
      items,
      f.counted.1,
      taken c,
      still-taken now c.count_refused-refused.result c.settle.new.self f.some f.is items (all-taken now now (same-items now) items f.counted.2),
    )

pub returns-clause-same : goal.returns-clause-same
returns-clause-same c =
    let f = facts c in (
      settled _ _ f.lose c.count_refused-refused.result c.settle.new.self f.some f.is,
      still-joined _ c.count_refused-refused.result c.settle.new.self f.some f.is f.joined,
    )

pub returns-clause-known : goal.returns-clause-known
returns-clause-known c =
    let f = facts c in
    let now = c.count_left-left.new.family.items in
    let known : KnowLeft now = subst KnowLeft (sym c.count_left-left.ensures.same) c.count_left-left.ensures.each in
    record {
      each = All-set (λ s. HasLeft s.own.hand) now 0 c.settle.new.self (subst (λ (s : ShareState). HasLeft s.own.hand) (sym f.is) (known.each 0 nobody f.some)) known.each;
      even = settled-even now c.count_refused-refused.result c.settle.new.self f.some f.is known.even;
    }

pub returns-clause-refused : goal.returns-clause-refused
returns-clause-refused c =
    let f = facts c in
    let now = c.count_left-left.new.family.items in
    ap (λ t. t.refused) (get_or-set_same now 0 c.settle.new.self nobody f.some ∙ f.is) ∙ c.count_refused-refused.ensures ∙ ap (λ n. min n last_count) f.lose.refused
