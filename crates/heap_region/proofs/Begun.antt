-- What is a beginning of what a thread has made is of its first orders.
use Rattle.std.proofs.Common.{◌≡◌, ℕ, suc, List, [], ◌∷◌, ◌++◌, take, Option, Some, None, refl, sym, ap, ◌∙◌, subst, inl, inr}
use mathlib.Core.Logic.{◌⊎◌}
use Rattle.gc_graph.specs.declared.command.Order.{Order}
use Rattle.gc_graph.specs.declared.region.Entry.{Entry}
use Rattle.gc_graph.specs.declared.region.Op.{Op}
use Rattle.gc_graph.specs.declared.region.Reply.TheVariants as P
use Rattle.gc_graph.specs.RegionSteps.{Answer, HasDone, entry_of, op_of}
use Rattle.gc_graph.specs.RegionSteps.Answer.{Replied, Told}

-- an order leaves one entry or none
one_entry : (j : ℕ) (op : Option Op) (answer : Answer) → (entry_of j op answer ≡ []) ⊎ ((e : Entry) × (entry_of j op answer ≡ e ∷ []))
one_entry j (Some op) (Replied P.NoMemory) = inl refl
one_entry j (Some op) (Replied P.Done) = inr (_, refl)
one_entry j (Some op) (Replied P.Null) = inr (_, refl)
one_entry j (Some op) (Replied (P.Node n)) = inr (_, refl)
one_entry j (Some op) (Told o n u f) = inl refl
one_entry j None answer = inl refl

-- the first entries of a thread are those of its first orders
pub done_first : (j : ℕ) (orders : List Order) (answers : List Answer) (xs ys : List Entry) → HasDone j orders answers (xs ++ ys)
    → (n : ℕ) × (first : List Answer) × HasDone j (take n orders) first xs
done_first j orders answers [] ys has = (0, [], refl)
done_first j [] [] (x ∷ xs) ys has = absurd (let never : x ∷ (xs ++ ys) ≡ [] = has in cc)
done_first j [] (answer ∷ answers) (x ∷ xs) ys has = absurd has
done_first j (order ∷ orders) [] (x ∷ xs) ys has = absurd has
done_first j (order ∷ orders) (answer ∷ answers) (x ∷ xs) ys has =
    elim (one_entry j (op_of order) answer) [
      | inl none ↦ (
          let same : has.0 ≡ x ∷ (xs ++ ys) = sym (has.2 ∙ ap (λ l. l ++ has.0) none) in
          let more = done_first j orders answers (x ∷ xs) ys (subst (HasDone j orders answers) same has.3) in
          (suc more.0, answer ∷ more.1, (x ∷ xs, has.1, ap (λ l. l ++ x ∷ xs) (sym none), more.2))
          )
      | inr one ↦ (
          let both : x ∷ (xs ++ ys) ≡ one.0 ∷ has.0 = has.2 ∙ ap (λ l. l ++ has.0) one.1 in
          let rest : has.0 ≡ xs ++ ys = cc in
          let here : one.0 ≡ x = cc in
          let more = done_first j orders answers xs ys (subst (HasDone j orders answers) rest has.3) in
          (suc more.0, answer ∷ more.1, (xs, has.1, ap (λ e. e ∷ xs) (sym here) ∙ ap (λ l. l ++ xs) (sym one.1), more.2))
          )
    ]
