-- Who made the entries that a step takes.
use Rattle.std.proofs.Common.{◌≡◌, ℕ, List, [], ◌∷◌, refl, sym, subst, inl, inr, arith, Contains, All}
use Rattle.std.proofs.lemmas.List.Elements.{All-nil, All-cons, All-append, All-weaker}
use Rattle.gc_graph.specs.declared.command.Order.{Order}
use Rattle.gc_graph.specs.declared.command.Order.TheVariants as Q
use Rattle.gc_graph.specs.declared.region.Entry.{Entry}
use Rattle.gc_graph.specs.declared.region.Op.{Op}
use Rattle.gc_graph.specs.declared.region.Op.TheVariants as O
use Rattle.gc_graph.specs.State.{State}
use Rattle.gc_graph.specs.Outcomes.{AreOthers, IsThreadOp}
use Rattle.gc_graph.specs.JoinLaw.{AreThreads}
use Rattle.gc_graph.specs.OrderLaw.{Does, IsOfItsThread, EntriesAreOfTheirThreads}
use Rattle.gc_graph.specs.Commands.{family_of, Family}
use Rattle.gc_graph.specs.Commands.Family.{Cycle, Region, Threads}
use Rattle.gc_graph.specs.Families.{EndsWithOwners, TakesPiece}
use Rattle.gc_graph.proofs.FamilyFrames.{steps_stay_in_their_family}

-- ---- one entry

does_as_thread : (order : Order) (op : Op) → Does order op → IsThreadOp op
does_as_thread (Q.Copy x y) (O.Copy from into) d = tt
does_as_thread (Q.Clear x) (O.Clear slot) d = tt
does_as_thread (Q.Weaken x) (O.Weaken slot) d = tt
does_as_thread (Q.Upgrade x y) (O.Upgrade from into) d = tt
does_as_thread order op d = absurd d

order_for : (op : Op) → IsThreadOp op → (order : Order) × Does order op
order_for (O.Copy x y) t = (Q.Copy x y, (refl, refl))
order_for (O.Clear x) t = (Q.Clear x, refl)
order_for (O.Weaken x) t = (Q.Weaken x, refl)
order_for (O.Upgrade x y) t = (Q.Upgrade x y, (refl, refl))
order_for op t = absurd t

module _ (running : List ℕ) (threads : AreThreads running) where
  other_entry : (entry : Entry) → Contains running entry.thread × IsThreadOp entry.op → IsOfItsThread running entry
  other_entry entry h = record {
    owner = λ zeroth order d. absurd (let low = (threads.each entry.thread h.0).0 in omega (arith, low, zeroth));
    others = λ other. (h.0, order_for entry.op h.1);
  }

  own_entry : (entry : Entry) → entry.thread ≡ 0 → (IsThreadOp entry.op → ⊥) → IsOfItsThread running entry
  own_entry entry zeroth own = record {
    owner = λ none order d. own (does_as_thread order entry.op d);
    others = λ other. absurd (other zeroth);
  }

  -- ---- the pieces

  none_taken : (piece : List Entry) → piece ≡ [] → All (IsOfItsThread running) piece
  none_taken piece e = subst (All (IsOfItsThread running)) (sym e) (All-nil (IsOfItsThread running))

  of_others : (s : State) (before : List Entry) → s.running ≡ running → AreOthers s before → All (IsOfItsThread running) before
  of_others s before same others =
      All-weaker (λ (entry : Entry). Contains s.running entry.thread × IsThreadOp entry.op) (IsOfItsThread running)
      (λ entry h. other_entry entry (subst (λ js. Contains js entry.thread) same h.0, h.1)) before others

  with_own : (old : State) (piece : List Entry) → old.running ≡ running → EndsWithOwners old piece → All (IsOfItsThread running) piece
  with_own old piece same h =
      subst (All (IsOfItsThread running)) (sym h.piece_is)
      (All-append (IsOfItsThread running) h.before (h.own ∷ []) (of_others old h.before same h.others)
      (All-cons (IsOfItsThread running) h.own [] (own_entry h.own h.owner h.does) (All-nil (IsOfItsThread running))))

  pub of_family : (family : Family) (old : State) (piece : List Entry) → old.running ≡ running → TakesPiece family old piece → All (IsOfItsThread running) piece
  of_family Cycle old piece same h = elim h [
    | inl none ↦ none_taken piece none
    | inr some ↦ elim some [
      | inl once ↦ with_own old piece same once
      | inr twice ↦
          subst (All (IsOfItsThread running)) (sym twice.2)
          (All-append (IsOfItsThread running) twice.0 twice.1 (with_own old twice.0 same twice.3) (with_own old twice.1 same twice.4))
    ]
  ]
  of_family Region old piece same h = elim h [ inl none ↦ none_taken piece none | inr once ↦ with_own old piece same once ]
  of_family Threads old piece same h = of_others old piece same h
  of_family family old piece same h = none_taken piece h

pub entries_are_of_their_threads : EntriesAreOfTheirThreads
entries_are_of_their_threads setup old new command piece lines threads h =
    of_family old.running threads (family_of command) old piece refl (steps_stay_in_their_family setup old command piece lines new h).takes
