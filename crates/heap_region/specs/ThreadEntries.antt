-- For crates above: which entries are of which thread.
use Rattle.std.proofs.Common.{◌≡◌, ℕ, ◌<◌, Bool, true, false, List, [], ◌∷◌, ◌++◌, length, All, refl, ap, ◌∙◌, inl, inr, arith, cond, eqb, nat_lt}
use Rattle.std.specs.List.{Contains, range_with_len}
use Rattle.std.proofs.lemmas.Bool.{cases_Bool, eqb-true}
use Rattle.std.proofs.lemmas.List.Elements.{All-head, All-tail}
use Rattle.gc_graph.specs.declared.command.Order.{Order}
use Rattle.gc_graph.specs.declared.region.Entry.{Entry}
use Rattle.gc_graph.specs.Members.{in_range, was_in}
use Rattle.gc_graph.specs.RegionSteps.{entries_by}
use Rattle.thread_queues.specs.Queues.{queue_in, threads_in}
use Rattle.heap_region.specs.Inside.{IsOwners}

-- what the owner made is of no thread
pub owners_by_none : (j : ℕ) (es : List Entry) → 0 < j → All IsOwners es → entries_by j es ≡ []
owners_by_none j [] above owners = refl
owners_by_none j (e ∷ es) above owners =
    let other : eqb e.thread j ≡ false = elim (cases_Bool (eqb e.thread j)) [
      | inl same ↦ absurd (omega (arith, above, eqb-true e.thread j same, All-head IsOwners e es owners))
      | inr different ↦ different
    ] in
    ap (λ b. cond b (e ∷ entries_by j es) (entries_by j es)) other ∙ owners_by_none j es above (All-tail IsOwners e es owners)

-- the entries of thread j are those that it made among these and those
pub entries_on : (j : ℕ) (xs ys : List Entry) → entries_by j (xs ++ ys) ≡ entries_by j xs ++ entries_by j ys
entries_on j [] ys = refl
entries_on j (x ∷ xs) ys = go (eqb x.thread j) (entries_on j xs ys) where
  go : (b : Bool) → entries_by j (xs ++ ys) ≡ entries_by j xs ++ entries_by j ys
      → cond b (x ∷ entries_by j (xs ++ ys)) (entries_by j (xs ++ ys)) ≡ cond b (x ∷ entries_by j xs) (entries_by j xs) ++ entries_by j ys
  go true rest = ap (λ l. x ∷ l) rest
  go false rest = rest

-- threads are numbered from 1
pub thread_above : (queues : List (List Order)) (j : ℕ) → Contains (threads_in queues) j → 0 < j
thread_above queues j there =
    (let w = in_range 1 8 j (was_in (λ k. nat_lt 0 (length (queue_in queues k))) (range_with_len 1 8) j there) in omega (arith, w.0))
