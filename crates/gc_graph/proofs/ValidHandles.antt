-- What slots and the stack name, and that a state stays sound where they are written.
use Rattle.std.proofs.Common.{◌≡◌, ℕ, zero, suc, List, [], ◌∷◌, length, get_or, set, All, Option, Some, None, sym, subst, inl, inr, slice_get}
use Rattle.std.specs.Prelude.{⊤}
use Rattle.std.proofs.lemmas.Bool.{cases_lt}
use Rattle.std.proofs.lemmas.List.{get_or_past}
use Rattle.std.proofs.lemmas.List.Elements.{All-set, All-head, All-tail}
use Rattle.gc_graph.specs.declared.kind.Value.{Value}
use Rattle.gc_graph.specs.declared.kind.Value.TheVariants.{Null, Ref, Word}
use Rattle.gc_graph.specs.State.{Setup, State, StackWord, IsLive}
use Rattle.gc_graph.specs.Fields.{content_of}
use Rattle.gc_graph.specs.Outcomes.{slot_at, with_slot}
use Rattle.gc_graph.proofs.Sound.{SlotNames, WordNames, IsRoot, IsSound}

-- what a root of the state names
abbrev pub Root : State → ℕ → Type 0
Root s n = IsRoot s.nodes s.phase s.may n

pub slot_names : (P : ℕ → Type 0) (slots : List (Option ℕ)) (p : ℕ) → All (SlotNames P) slots → SlotNames P (get_or slots p None)
slot_names P slots p h =
    elim (cases_lt p (length slots)) [
      | inl l ↦ h p None l
      | inr past ↦ subst (SlotNames P) (sym (get_or_past slots p None past)) tt
    ]

pub slot_sound : (setup : Setup) (s : State) (p : ℕ) (content : Option ℕ) → IsSound setup s → SlotNames (Root s) content → IsSound setup (with_slot s p content)
slot_sound setup s p content g h = record {
  heap = g.heap;
  slots = All-set (SlotNames (Root s)) s.slots p content h g.slots;
  weak = g.weak;
  stack = g.stack;
  region = g.region;
  registered = g.registered;
  settled = g.settled;
  may = g.may;
}

pub weak_sound : (setup : Setup) (s : State) (w : ℕ) (content : Option ℕ) → IsSound setup s → SlotNames (IsLive s.nodes) content
    → IsSound setup (record s { weak = set s.weak w content })
weak_sound setup s w content g h = record {
  heap = g.heap;
  slots = g.slots;
  weak = All-set (SlotNames (IsLive s.nodes)) s.weak w content h g.weak;
  stack = g.stack;
  region = g.region;
  registered = g.registered;
  settled = g.settled;
  may = g.may;
}

pub stack_sound : (setup : Setup) (s : State) (stack : List StackWord) → IsSound setup s → All (WordNames (Root s)) stack → IsSound setup (record s { stack = stack })
stack_sound setup s stack g h = record {
  heap = g.heap;
  slots = g.slots;
  weak = g.weak;
  stack = h;
  region = g.region;
  registered = g.registered;
  settled = g.settled;
  may = g.may;
}

-- ---- what slots name

pub slot_root : (setup : Setup) (s : State) (p : ℕ) → IsSound setup s → SlotNames (Root s) (slot_at s p)
slot_root setup s p g = slot_names (Root s) s.slots p g.slots

pub slot_is_root : (setup : Setup) (s : State) (p n : ℕ) → IsSound setup s → slot_at s p ≡ Some n → Root s n
slot_is_root setup s p n g e = subst (SlotNames (Root s)) e (slot_root setup s p g)

-- ---- values and words that name nodes

-- a weak read of a value that names a live node
abbrev pub ValueLive : State → Value → Type 0
ValueLive s Null = ⊤
ValueLive s (Ref n) = IsLive s.nodes n
ValueLive s (Word w) = ⊤

abbrev pub ValueRoot : State → Value → Type 0
ValueRoot s Null = ⊤
ValueRoot s (Ref n) = Root s n
ValueRoot s (Word w) = ⊤

pub content_live : (s : State) (content : Option ℕ) → SlotNames (IsLive s.nodes) content → ValueLive s (content_of content)
content_live s None h = tt
content_live s (Some n) h = h

abbrev pub IfWord : (StackWord → Type 0) → Option StackWord → Type 0
IfWord P None = ⊤
IfWord P (Some word) = P word

pub word_names : (P : StackWord → Type 0) (stack : List StackWord) (i : ℕ) → All P stack → IfWord P (slice_get stack i)
word_names P [] i h = tt
word_names P (word ∷ stack) zero h = All-head P word stack h
word_names P (word ∷ stack) (suc i) h = word_names P stack i (All-tail P word stack h)
