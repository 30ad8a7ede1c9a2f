-- The commands on the stack are steps of the graph.
use Rattle.std.proofs.Common.{◌≡◌, ℕ, ◌<◌, ◌≤◌, ltb, List, [], ◌∷◌, map, reverse, Option, Some, None, sym, ap, ◌∙◌, subst}
use Rattle.std.specs.Prelude.{MatchOption, MatchBool}
use Rattle.std.specs.List.{slice_get}
use Rattle.std.proofs.lemmas.Bool.{lt-ltb, le-ltb}
use Rattle.std.proofs.lemmas.List.{reverse-reverse}
use Rattle.gc_graph.specs.declared.line.Line.{Line}
use Rattle.gc_graph.specs.declared.line.Line.TheVariants as L
use Rattle.gc_graph.specs.declared.line.Refusal.TheVariants as R
use Rattle.gc_graph.specs.State.{State, StackWord, node_at, size_of}
use Rattle.gc_graph.specs.State.StackWord.{Pointer, Number}
use Rattle.gc_graph.specs.Outcomes.{answered, IsRefused, slot_at, with_slot}
use Rattle.gc_graph.specs.HandleSteps.{IsPushed, IsPeeked, StepPush, StepPeek}
use Rattle.heap_cycle.specs.Objects.{IsLiveAt}
use Rattle.heap_cycle.specs.Stack.{StackView, pointed_place}
use Rattle.heap_cycle.specs.declared.parts.Parts.{Parts}
use Rattle.heap_cycle.specs.Handles.{HandlesView}
use Rattle.heap_cycle.specs.Parts.{state_of, AreTied, IsReady}
use Rattle.heap_cycle.specs.StackWords.{pointer_at, number_without_place, no_word}

-- ---- a pointer is pushed, or refused for its offset

module _ (s : State) (p offset n : ℕ) (lines : List Line) (new : State) (named : slot_at s p ≡ Some n) where
  on_slot : MatchBool (ltb offset (size_of (node_at s.nodes n))) (IsPushed s (Pointer n offset) lines new) (IsRefused R.Field s lines new) → StepPush s p offset lines new
  on_slot step =
      subst (λ slot. MatchOption slot (IsRefused R.Null s lines new)
      (λ m. MatchBool (ltb offset (size_of (node_at s.nodes m))) (IsPushed s (Pointer m offset) lines new) (IsRefused R.Field s lines new))) (sym named) step

  pub push_within : offset < size_of (node_at s.nodes n) → IsPushed s (Pointer n offset) lines new → StepPush s p offset lines new
  push_within low step =
      on_slot (subst (λ b. MatchBool b (IsPushed s (Pointer n offset) lines new) (IsRefused R.Field s lines new)) (sym (lt-ltb offset (size_of (node_at s.nodes n)) low)) step)

  pub push_past : size_of (node_at s.nodes n) ≤ offset → IsRefused R.Field s lines new → StepPush s p offset lines new
  push_past past step =
      on_slot (subst (λ b. MatchBool b (IsPushed s (Pointer n offset) lines new) (IsRefused R.Field s lines new)) (sym (le-ltb offset (size_of (node_at s.nodes n)) past)) step)

-- ---- a word is looked at

-- what the stack, lent as it is among the handles, tells of word i, counted from the last one
pub record TellsWord (h : HandlesView) (lent : StackView) (i : ℕ) (told : Option (Option ℕ)) : Type 0 where
  pub lends : lent ≡ h.stack
  pub tells : told ≡ slice_get (reverse lent.places) i

word_told : (s : Parts) (lent : StackView) (i : ℕ) (told : Option (Option ℕ)) → AreTied s → TellsWord s.handles lent i told
    → told ≡ slice_get (map (pointed_place s.objects.nodes) s.handles.stack.words) i
word_told s lent i told tied is =
    is.tells ∙ ap (λ (x : StackView). slice_get (reverse x.places) i) is.lends ∙ ap (λ l. slice_get (reverse l) i) tied.stack.places
    ∙ ap (λ l. slice_get l i) (reverse-reverse (map (pointed_place s.objects.nodes) s.handles.stack.words))

pub word_points : (s : Parts) (lent : StackView) (i a : ℕ) (told : Option (Option ℕ)) → IsReady s → TellsWord s.handles lent i told → told ≡ Some (Some a)
    → (n offset : ℕ) × (slice_get s.handles.stack.words i ≡ Some (Pointer n offset)) × IsLiveAt s.objects.nodes n a
word_points s lent i a told ready is points = pointer_at s.objects.nodes s.handles.stack.words i a ready.valid.stack (sym (word_told s lent i told ready.tied is) ∙ points)

on_word : (s : State) (i q : ℕ) (lines : List Line) (new : State) (word : StackWord) → slice_get s.stack i ≡ Some word → IsPeeked s word q lines new → StepPeek s i q lines new
on_word s i q lines new word is step = subst (λ w. MatchOption w (IsRefused R.Empty s lines new) (λ x. IsPeeked s x q lines new)) (sym is) step

pub peek_pointer : (s : State) (i q n offset : ℕ) (lines : List Line) (new : State) → slice_get s.stack i ≡ Some (Pointer n offset) → lines ≡ L.Node n ∷ []
    → new ≡ answered (with_slot s q (Some n)) → StepPeek s i q lines new
peek_pointer s i q n offset lines new is told after = on_word s i q lines new (Pointer n offset) is (told, after)

pub peek_number : (s : Parts) (lent : StackView) (i q : ℕ) (told : Option (Option ℕ)) (lines : List Line) (new : State) → AreTied s
    → TellsWord s.handles lent i told → told ≡ Some None → IsRefused R.Kind (state_of s) lines new → StepPeek (state_of s) i q lines new
peek_number s lent i q told lines new tied is none step =
    let number = number_without_place s.objects.nodes s.handles.stack.words i (sym (word_told s lent i told tied is) ∙ none) in
    on_word (state_of s) i q lines new (Number number.0) number.1 step

pub peek_none : (s : Parts) (lent : StackView) (i q : ℕ) (told : Option (Option ℕ)) (lines : List Line) (new : State) → AreTied s
    → TellsWord s.handles lent i told → told ≡ None → IsRefused R.Empty (state_of s) lines new → StepPeek (state_of s) i q lines new
peek_none s lent i q told lines new tied is none step =
    subst (λ w. MatchOption w (IsRefused R.Empty (state_of s) lines new) (λ x. IsPeeked (state_of s) x q lines new))
    (sym (no_word s.objects.nodes s.handles.stack.words i (sym (word_told s lent i told tied is) ∙ none))) step
