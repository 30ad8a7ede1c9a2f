-- What the answer of a command on a field tells of the object's field.
use Rattle.std.proofs.Common.{◌≡◌, ◌≢◌, ◌<◌, ℕ, Bool, true, false, List, length, Option, Some, None, Result, Ok, Err, refl, sym, ap, ◌∙◌, subst, inl, inr, get_or, set as slice_set}
use Rattle.std.specs.Prelude.{IfOk, IfErr, IfSome, option_map}
use Rattle.std.proofs.lemmas.List.{get_or-set_same}
use Rattle.gc_graph.specs.declared.command.Command.{Command}
use Rattle.gc_graph.specs.declared.command.Command.TheVariants as C
use Rattle.gc_graph.specs.declared.kind.Kind.{Kind}
use Rattle.gc_graph.specs.declared.kind.Kind.TheVariants.{Strong, Weak, Pair, Plain}
use Rattle.gc_graph.specs.declared.kind.Value.{Value}
use Rattle.gc_graph.specs.declared.kind.Value.TheVariants.{Null, Ref, Word}
use Rattle.gc_graph.specs.declared.line.Line.{Line}
use Rattle.gc_graph.specs.declared.line.Refusal.TheVariants as R
use Rattle.gc_graph.specs.State.{State, Node, node_at}
use Rattle.gc_graph.specs.Fields.{field_count, kind_of_field, is_reference, is_pair, is_plain, content_of}
use Rattle.gc_graph.specs.May.{read_node}
use Rattle.gc_graph.specs.Outcomes.{answered, slot_at, with_slot}
use Rattle.gc_graph.specs.Commands.{HasReason}
use Rattle.gc_graph.specs.HandleLaw.{MeansDone, MeansRead, MeansWord, IsTurnedDown, IsFieldOf, IsWritten, IsHeld}
use Rattle.oilpan.specs.declared.errors.FieldError.{FieldError}
use Rattle.oilpan.specs.declared.errors.FieldError.TheVariants as F
use Rattle.oilpan.specs.declared.handles.Root.{Root}
use Rattle.oilpan.specs.Asked.{why_of, line_of_write, line_of_word, line_of_roots}
use Rattle.oilpan.specs.Fields.{HasField, IsFieldDone, IsFault, IsFieldFault, IsNamed}

-- ---- why a field isn't there

no_reference : (kind : Kind) → (kind ≢ Strong) × (kind ≢ Weak) → is_reference kind ≡ false
no_reference Strong h = absurd (h.0 refl)
no_reference Weak h = absurd (h.1 refl)
no_reference Pair h = refl
no_reference Plain h = refl

no_pair : (kind : Kind) → kind ≢ Pair → is_pair kind ≡ false
no_pair Strong h = refl
no_pair Weak h = refl
no_pair Pair h = absurd (h refl)
no_pair Plain h = refl

no_plain : (kind : Kind) → kind ≢ Plain → is_plain kind ≡ false
no_plain Strong h = refl
no_plain Weak h = refl
no_plain Pair h = refl
no_plain Plain h = absurd (h refl)

-- the command asks for field f of the object of slot p, of an allowed kind
pub record AsksField (command : Command) (allowed : Kind → Bool) (p f : ℕ) : Type 0 where
  pub missing : (s : State) → HasReason s command R.Field → (n : ℕ) × (slot_at s p ≡ Some n) × IsFault allowed s n f F.Field
  pub other : (s : State) → HasReason s command R.Kind → (n : ℕ) × (slot_at s p ≡ Some n) × IsFault allowed s n f F.Kind

pub set_asks : (p f q : ℕ) → AsksField (C.Set p f q) is_reference p f
set_asks p f q = record {
  missing = λ s h. h;
  other = λ s h. elim h [ inl k ↦ (k.0, k.1, no_reference _ k.2) | inr k ↦ absurd k ];
}

pub set_null_asks : (p f : ℕ) → AsksField (C.SetNull p f) is_reference p f
set_null_asks p f = record {
  missing = λ s h. h;
  other = λ s h. elim h [ inl k ↦ (k.0, k.1, no_reference _ k.2) | inr k ↦ absurd k ];
}

pub pair_asks : (p f k v : ℕ) → AsksField (C.Pair p f k v) is_pair p f
pair_asks p f k v = record {
  missing = λ s h. h;
  other = λ s h. elim h [ inl k ↦ (k.0, k.1, no_pair _ k.2) | inr k ↦ absurd k ];
}

pub pair_null_asks : (p f : ℕ) → AsksField (C.PairNull p f) is_pair p f
pair_null_asks p f = record {
  missing = λ s h. h;
  other = λ s h. elim h [ inl k ↦ (k.0, k.1, no_pair _ k.2) | inr k ↦ absurd k ];
}

pub put_asks : (p f w : ℕ) → AsksField (C.Put p f w) is_plain p f
put_asks p f w = record {
  missing = λ s h. h;
  other = λ s h. elim h [ inl k ↦ (k.0, k.1, no_plain _ k.2) | inr k ↦ absurd k ];
}

pub word_asks : (p f : ℕ) → AsksField (C.Word p f) is_plain p f
word_asks p f = record {
  missing = λ s h. h;
  other = λ s h. elim h [ inl k ↦ (k.0, k.1, no_plain _ k.2) | inr k ↦ absurd k ];
}

pub get_asks : (p f q : ℕ) → AsksField (C.Get p f q) is_reference p f
get_asks p f q = record {
  missing = λ s h. h;
  other = λ s h. elim h [ inl k ↦ (k.0, k.1, no_reference _ k.2) | inr k ↦ absurd k ];
}

pub key_asks : (p f q : ℕ) → AsksField (C.Key p f q) is_pair p f
key_asks p f q = record {
  missing = λ s h. h;
  other = λ s h. elim h [ inl k ↦ (k.0, k.1, no_pair _ k.2) | inr k ↦ absurd k ];
}

pub val_asks : (p f q : ℕ) → AsksField (C.Val p f q) is_pair p f
val_asks p f q = record {
  missing = λ s h. h;
  other = λ s h. elim h [ inl k ↦ (k.0, k.1, no_pair _ k.2) | inr k ↦ absurd k ];
}

-- ---- the object that a slot names

same_node : (s : State) (p n m : ℕ) → slot_at s p ≡ Some n → slot_at s p ≡ Some m → m ≡ n
same_node s p n m e f = cc

read_slots : (weak : Bool) (s : State) (m : ℕ) → (read_node weak s m).slots ≡ s.slots
read_slots true s m = refl
read_slots false s m = refl

module _ (old new : State) (command : Command) (allowed : Kind → Bool) (p f n : ℕ) (slot : slot_at old p ≡ Some n) where
  found : (m : ℕ) → IsFieldOf allowed old p f m → HasField allowed old n f
  found m h = subst (λ k. HasField allowed old k f) (same_node old p n m slot h.slot) (record { there = h.there; allows = h.allows })

  turned : AsksField command allowed p f → (why : FieldError) → IsTurnedDown old command (why_of why) new → IsFieldFault allowed old n f new why
  turned asks F.Field h =
      let is = asks.missing old h.reason.0 in
      record { reason = subst (λ k. IsFault allowed old k f F.Field) (same_node old p n is.0 slot is.1) is.2; left = h.after }
  turned asks F.Kind h =
      let is = asks.other old h.reason.0 in
      record { reason = subst (λ k. IsFault allowed old k f F.Kind) (same_node old p n is.0 slot is.1) is.2; left = h.after }

  -- ---- writes

  pub written : {T : Type 0} → (after : ℕ → State) (r : Result T FieldError) → MeansDone old command new (IsWritten allowed old p f after new) (line_of_write r)
      → IfOk r (λ _. IsFieldDone allowed old n f (after n) new)
  written after (Ok x) h = record { field = found h.node h.field; done = h.written ∙ ap (λ k. answered (after k)) (same_node old p n h.node slot h.field.slot) }
  written after (Err why) h = tt

  pub unwritten : {T : Type 0} → AsksField command allowed p f → (Done : Type 0) (r : Result T FieldError) → MeansDone old command new Done (line_of_write r)
      → IfErr r (IsFieldFault allowed old n f new)
  unwritten asks Done (Ok x) h = tt
  unwritten asks Done (Err why) h = turned asks why h

  -- ---- words

  module _ (part : List Node → ℕ → ℕ → Value) where
    held_is : (value : Value) (after : ℕ → State) → IsHeld allowed old p f part value after new → (part old.nodes n f ≡ value) × (new ≡ answered (after n))
    held_is value after h =
        let same : h.node ≡ n = same_node old p n h.node slot h.field.slot in
        (ap (λ k. part old.nodes k f) (sym same) ∙ h.held, h.read ∙ ap (λ k. answered (after k)) same)

    pub worded : (r : Result ℕ FieldError) → MeansWord old command new (λ w. IsHeld allowed old p f part (Word w) (λ k. old) new) (line_of_word r)
        → IfOk r (λ w. IsFieldDone allowed old n f old new × (part old.nodes n f ≡ Word w))
    worded (Ok w) h = (record { field = found h.node h.field; done = h.read }, (held_is (Word w) (λ k. old) h).0)
    worded (Err why) h = tt

    pub unworded : AsksField command allowed p f → (Tells : ℕ → Type 0) (r : Result ℕ FieldError) → MeansWord old command new Tells (line_of_word r)
        → IfErr r (IsFieldFault allowed old n f new)
    unworded asks Tells (Ok w) h = tt
    unworded asks Tells (Err why) h = turned asks why h

    -- ---- reads into slot q

    module _ (q : ℕ) (weak : ℕ → Bool) (low : q < length old.slots) where
      abbrev pub Gives : ℕ → Type 0
      Gives m = IsHeld allowed old p f part (Ref m) (λ k. with_slot (read_node (weak k) old m) q (Some m)) new

      abbrev pub Nothing : Type 0
      Nothing = IsHeld allowed old p f part Null (λ k. with_slot old q None) new

      pub read : (r : Result (Option Root) FieldError) → MeansRead old command new Gives Nothing (line_of_roots r)
          → IfOk r (λ o. HasField allowed old n f × IsNamed (part old.nodes n f) o)
      read (Ok (Some r)) h = (found h.node h.field, (held_is (Ref r.node) (λ k. with_slot (read_node (weak k) old r.node) q (Some r.node)) h).0)
      read (Ok None) h = (found h.node h.field, (held_is Null (λ k. with_slot old q None) h).0)
      read (Err why) h = tt

      pub unread : AsksField command allowed p f → (r : Result (Option Root) FieldError) → MeansRead old command new Gives Nothing (line_of_roots r)
          → IfErr r (IsFieldFault allowed old n f new)
      unread asks (Ok (Some r)) h = tt
      unread asks (Ok None) h = tt
      unread asks (Err why) h = turned asks why h

      -- the slot names what was read
      pub names : (m : ℕ) → Gives m → slot_at new q ≡ Some m
      names m h =
          let after = (held_is (Ref m) (λ k. with_slot (read_node (weak k) old m) q (Some m)) h).1 in
          ap (λ (s : State). slot_at s q) after
          ∙ ap (λ slots. get_or (slice_set slots q (Some m)) q None) (read_slots (weak n) old m)
          ∙ get_or-set_same old.slots q (Some m) None low

      pub names_none : Nothing → slot_at new q ≡ None
      names_none h =
          let after = (held_is Null (λ k. with_slot old q None) h).1 in
          ap (λ (s : State). slot_at s q) after ∙ get_or-set_same old.slots q None None low
