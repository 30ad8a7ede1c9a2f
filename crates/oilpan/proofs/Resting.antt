-- A heap stays at rest where a command leaves the slots that it doesn't write.
use Rattle.std.proofs.Common.{◌≡◌, ◌≢◌, ◌==◌, ◌<◌, ℕ, Bool, true, false, List, length, Option, Some, None, refl, sym, ap, ◌∙◌, subst, inl, inr, true≢false, get_or, set as slice_set, zero, suc, replicate, arith}
use Rattle.std.proofs.lemmas.Bool.{cases_eq}
use Rattle.std.proofs.lemmas.List.{get_or-set_same, get_or-set_other}
use Rattle.gc_graph.specs.declared.command.Command.{Command}
use Rattle.gc_graph.specs.declared.line.Line.{Line}
use Rattle.gc_graph.specs.declared.region.Entry.{Entry}
use Rattle.gc_graph.specs.State.{Setup, State, empty_state}
use Rattle.gc_graph.specs.Outcomes.{slot_at}
use Rattle.gc_graph.specs.Commands.{WritesSlot}
use Rattle.oilpan.specs.Asked.{IsAsked}
use Rattle.oilpan.specs.Rest.{IsAtRest}

abbrev pub AreFree : State → List Bool → Type 0
AreFree s taken = (z : ℕ) → get_or taken z true ≡ false → slot_at s z ≡ None

module _ (setup : Setup) (old new : State) (command : Command) (piece : List Entry) (lines : List Line) (line : Line)
    (asked : IsAsked setup old new command piece lines line) (taken : List Bool) (rest : IsAtRest setup old taken) where
  pub rest_with : (after : List Bool) → AreFree new after → IsAtRest setup new after
  rest_with after free = record {
    pages = rest.pages;
    slots = asked.left.slot_count ∙ rest.slots;
    weak = asked.left.weak_count ∙ rest.weak;
    stack = asked.stack ∙ rest.stack;
    running = asked.running ∙ rest.running;
    free = free;
  }

  -- no slot was written
  pub rest_same : ((z : ℕ) → WritesSlot command z → ⊥) → IsAtRest setup new taken
  rest_same none = rest_with taken (λ z is. asked.left.slots z (none z) ∙ rest.free z is)

  -- slot q was written, which is given out
  pub rest_given : (q : ℕ) → ((z : ℕ) → WritesSlot command z → z ≡ q) → get_or taken q true ≡ true → IsAtRest setup new taken
  rest_given q one given =
      rest_with taken
      (λ z is. elim (cases_eq z q) [
        | inl same ↦ absurd (true≢false (sym given ∙ subst (λ i. get_or taken i true ≡ false) same is))
        | inr other ↦ asked.left.slots z (λ writes. other (one z writes)) ∙ rest.free z is
      ])

  -- slot q was written, and is null
  pub rest_nulled : (q : ℕ) → ((z : ℕ) → WritesSlot command z → z ≡ q) → slot_at new q ≡ None → IsAtRest setup new taken
  rest_nulled q one null =
      rest_with taken
      (λ z is. elim (cases_eq z q) [
        | inl same ↦ ap (slot_at new) same ∙ null
        | inr other ↦ asked.left.slots z (λ writes. other (one z writes)) ∙ rest.free z is
      ])

-- a slot that isn't given out may be given out
pub rest_more : (setup : Setup) (s : State) (taken : List Bool) (q : ℕ) → q < length taken → IsAtRest setup s taken → IsAtRest setup s (slice_set taken q true)
rest_more setup s taken q low rest = record {
  pages = rest.pages;
  slots = rest.slots;
  weak = rest.weak;
  stack = rest.stack;
  running = rest.running;
  free = λ z is. elim (cases_eq z q) [
    | inl same ↦ absurd (true≢false (sym (get_or-set_same taken q true true low) ∙ subst (λ i. get_or (slice_set taken q true) i true ≡ false) same is))
    | inr other ↦ rest.free z (sym (get_or-set_other taken q z true true other) ∙ is)
  ];
}

-- a null slot may be given back
pub rest_less : (setup : Setup) (s : State) (taken : List Bool) (q : ℕ) → slot_at s q ≡ None → IsAtRest setup s taken → IsAtRest setup s (slice_set taken q false)
rest_less setup s taken q null rest = record {
  pages = rest.pages;
  slots = rest.slots;
  weak = rest.weak;
  stack = rest.stack;
  running = rest.running;
  free = λ z is. elim (cases_eq z q) [
    | inl same ↦ ap (slot_at s) same ∙ null
    | inr other ↦ rest.free z (sym (get_or-set_other taken q z false true other) ∙ is)
  ];
}

-- ---- a new heap

abbrev nothing : ℕ → List (Option ℕ)
nothing n = replicate n None

nothing_at : (n z : ℕ) → get_or (nothing n) z None ≡ None
nothing_at zero z = refl
nothing_at (suc n) zero = refl
nothing_at (suc n) (suc z) = nothing_at n z

pub rest_empty : (setup : Setup) (s : State) (taken : List Bool) → 0 < setup.shape.pages → s ≡ empty_state → IsAtRest setup s taken
rest_empty setup s taken some is = record {
  pages = some;
  slots = ap (λ (x : State). length x.slots) is;
  weak = ap (λ (x : State). length x.weak) is;
  stack = ap (λ (x : State). x.stack) is;
  running = ap (λ (x : State). x.running) is;
  free = λ z given. ap (λ (x : State). slot_at x z) is ∙ nothing_at 256 z;
}
