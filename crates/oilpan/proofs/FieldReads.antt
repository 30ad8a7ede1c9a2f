-- What a command leaves that reads a field into a slot.
use Rattle.std.proofs.Common.{◌≡◌, ◌<◌, ℕ, true, List, length, Option, Some, None, refl, sym, ap, ◌∙◌, subst}
use Rattle.gc_graph.specs.declared.command.Command.{Command}
use Rattle.gc_graph.specs.declared.command.Command.TheVariants as C
use Rattle.gc_graph.specs.declared.line.Line.{Line}
use Rattle.gc_graph.specs.declared.line.Line.TheVariants as L
use Rattle.gc_graph.specs.declared.line.Refusal.{Refusal}
use Rattle.gc_graph.specs.declared.region.Entry.{Entry}
use Rattle.gc_graph.specs.State.{Setup, State}
use Rattle.gc_graph.specs.Fields.{is_reference, is_pair}
use Rattle.gc_graph.specs.Outcomes.{slot_at}
use Rattle.gc_graph.specs.Commands.{SpeaksOf, WritesSlot}
use Rattle.gc_graph.specs.ClearingLaw.{first_held, second_held}
use Rattle.gc_graph.specs.HandleLaw.{Means, MeansRead, IsTurnedDown, reads_weakly}
use Rattle.oilpan.specs.Region.{WritesRegion}
use Rattle.oilpan.specs.Asked.{ReadsInto}
use Rattle.oilpan.proofs.Fielding.{names_none}

-- a slot that some command speaks of holds a node
option_there : (o : Option ℕ) → (o ≡ None → ⊥) → (n : ℕ) × (o ≡ Some n)
option_there None h = absurd (h refl)
option_there (Some n) h = (n, refl)

pub reads_one : (slot : ℕ) (command : Command) → ReadsInto slot command → (z : ℕ) → WritesSlot command z → z ≡ slot
reads_one slot (C.Get p f q) h z writes = writes ∙ h
reads_one slot (C.Key p f q) h z writes = writes ∙ h
reads_one slot (C.Val p f q) h z writes = writes ∙ h
reads_one slot command h z writes = absurd h

pub reads_apart : (slot : ℕ) (command : Command) → ReadsInto slot command → (z : ℕ) → WritesRegion command z → ⊥
reads_apart slot (C.Export p x) h z writes = h
reads_apart slot command h z writes = writes

module _ (setup : Setup) (old new : State) (piece : List Entry) (lines : List Line) (slot : ℕ) (low : slot < length old.slots) where
  -- where null was read, the slot is null
  null_read : (command : Command) → ReadsInto slot command → (SpeaksOf old command None → ⊥) → Means setup old command piece lines new L.Null
      → slot_at new slot ≡ None
  null_read (C.Get p f q) into held h =
      let there = option_there (slot_at old p) held in
      subst (λ z. slot_at new z ≡ None) into
      (names_none old new (C.Get p f q) is_reference p f there.0 there.1 first_held q (λ k. reads_weakly old f k) (subst (λ z. z < length old.slots) (sym into) low) h)
  null_read (C.Key p f q) into held h =
      let there = option_there (slot_at old p) held in
      subst (λ z. slot_at new z ≡ None) into
      (names_none old new (C.Key p f q) is_pair p f there.0 there.1 first_held q (λ k. true) (subst (λ z. z < length old.slots) (sym into) low) h)
  null_read (C.Val p f q) into held h =
      let there = option_there (slot_at old p) held in
      subst (λ z. slot_at new z ≡ None) into
      (names_none old new (C.Val p f q) is_pair p f there.0 there.1 second_held q (λ k. true) (subst (λ z. z < length old.slots) (sym into) low) h)
  null_read command into held h = absurd into

  -- where the command was refused, the slot is what it was
  refused_read : (command : Command) (why : Refusal) → ReadsInto slot command → slot_at old slot ≡ None
      → Means setup old command piece lines new (L.Refused why) → slot_at new slot ≡ None
  refused_read (C.Get p f q) why into null h = ap (λ (s : State). slot_at s slot) h.after ∙ null
  refused_read (C.Key p f q) why into null h = ap (λ (s : State). slot_at s slot) h.after ∙ null
  refused_read (C.Val p f q) why into null h = ap (λ (s : State). slot_at s slot) h.after ∙ null
  refused_read command why into null h = absurd into

  or_null : (command : Command) (Gives : ℕ → Type 0) (Nothing : Type 0) (line : Line) → MeansRead old command new Gives Nothing line
      → ((n : ℕ) → line ≡ L.Node n → ⊥) → (Nothing → slot_at new slot ≡ None)
      → ((why : Refusal) → IsTurnedDown old command why new → slot_at new slot ≡ None) → slot_at new slot ≡ None
  or_null command Gives Nothing (L.Node n) h unread nothing refused = absurd (unread n refl)
  or_null command Gives Nothing L.Null h unread nothing refused = nothing h
  or_null command Gives Nothing (L.Refused why) h unread nothing refused = refused why h
  or_null command Gives Nothing _ h unread nothing refused = absurd h

  -- where no node was read, the slot is null
  pub null_unread : (command : Command) → ReadsInto slot command → (SpeaksOf old command None → ⊥) → slot_at old slot ≡ None → (line : Line)
      → Means setup old command piece lines new line → ((n : ℕ) → line ≡ L.Node n → ⊥) → slot_at new slot ≡ None
  null_unread (C.Get p f q) into held null line h unread =
      or_null (C.Get p f q) _ _ line h unread (null_read (C.Get p f q) into held) (λ why. refused_read (C.Get p f q) why into null)
  null_unread (C.Key p f q) into held null line h unread =
      or_null (C.Key p f q) _ _ line h unread (null_read (C.Key p f q) into held) (λ why. refused_read (C.Key p f q) why into null)
  null_unread (C.Val p f q) into held null line h unread =
      or_null (C.Val p f q) _ _ line h unread (null_read (C.Val p f q) into held) (λ why. refused_read (C.Val p f q) why into null)
  null_unread command into held null _ _ _ = absurd into
