-- When a command on a field is refused.
use Rattle.std.proofs.Common.{◌≡◌, ◌≢◌, ℕ, ◌<◌, ◌≤◌, nat_lt, Bool, true, false, true≢false, List, [], ◌∷◌, Option, Some, None, refl, sym, ◌∙◌, subst, inl, inr, arith}
use Rattle.std.proofs.lemmas.Bool.{ltb-true, ltb-false}
use Rattle.gc_graph.specs.declared.command.Command.{Command}
use Rattle.gc_graph.specs.declared.command.Command.TheVariants as C
use Rattle.gc_graph.specs.declared.kind.Kind.{Kind}
use Rattle.gc_graph.specs.declared.kind.Kind.TheVariants.{Strong, Weak, Pair, Plain}
use Rattle.gc_graph.specs.declared.line.Line.{Line}
use Rattle.gc_graph.specs.declared.line.Line.TheVariants as L
use Rattle.gc_graph.specs.declared.line.Refusal.{Refusal}
use Rattle.gc_graph.specs.declared.line.Refusal.TheVariants as R
use Rattle.gc_graph.specs.declared.phase.Phase.{Phase}
use Rattle.gc_graph.specs.Graph.{Object}
use Rattle.gc_graph.specs.State.{State, StackWord, Node, node_at}
use Rattle.gc_graph.specs.Fields.{field_count, kind_of_field, is_reference, is_pair, is_plain}
use Rattle.gc_graph.specs.Outcomes.{slot_at}
use Rattle.gc_graph.specs.ObjectSteps.{AtField}
use Rattle.gc_graph.specs.Commands.{IsOutOfPhase, SpeaksOf, IsMissing, IsOfOtherKind, PeeksNumber, IsStopped, LacksWord, HasReason}
use Rattle.gc_graph.proofs.ValidCases.{bool_is}
use Rattle.gc_graph.proofs.Verdicts.{either_way, Verdict, first_of_all, done}

-- ---- a command on a field

-- the command asks for field f of slot p's object, of these kinds, and for nothing else
pub record AsksField (command : Command) (allowed : Kind → Bool) (p f : ℕ) : Type 0 where
  pub phase : (phase : Phase) → IsOutOfPhase phase command → ⊥
  pub speaks : (s : State) (content : Option ℕ) → SpeaksOf s command content → slot_at s p ≡ content
  pub spoken : (s : State) (content : Option ℕ) → slot_at s p ≡ content → SpeaksOf s command content
  pub missing : (node : Node) → IsMissing node command → field_count node ≤ f
  pub missed : (node : Node) → field_count node ≤ f → IsMissing node command
  pub other : (object : Object) → IsOfOtherKind object command → allowed (kind_of_field object f) ≡ false
  pub others : (object : Object) → allowed (kind_of_field object f) ≡ false → IsOfOtherKind object command
  pub peeks : (stack : List StackWord) → PeeksNumber stack command → ⊥
  pub stops : (stack : List StackWord) → IsStopped stack command → ⊥
  pub lacks : (stack : List StackWord) → LacksWord stack command → ⊥

module _ (old new : State) (lines : List Line) (command : Command) (allowed : Kind → Bool) (p f : ℕ) (asks : AsksField command allowed p f) where
  no_phase : HasReason old command R.Phase → ⊥
  no_phase = asks.phase old.phase

  no_null : (n : ℕ) → slot_at old p ≡ Some n → HasReason old command R.Null → ⊥
  no_null n slot h = (let e : Some n ≡ None = sym slot ∙ asks.speaks old None h in absurd cc)

  -- the slot's node is the one that is spoken of
  that_one : (n m : ℕ) → slot_at old p ≡ Some n → SpeaksOf old command (Some m) → m ≡ n
  that_one n m slot h = (let e : Some m ≡ Some n = sym (asks.speaks old (Some m) h) ∙ slot in cc)

  no_field : (n : ℕ) → slot_at old p ≡ Some n → f < field_count (node_at old.nodes n) → HasReason old command R.Field → ⊥
  no_field n slot there h =
      let past : field_count (node_at old.nodes n) ≤ f =
      subst (λ m. field_count (node_at old.nodes m) ≤ f) (that_one n h.0 slot h.1) (asks.missing (node_at old.nodes h.0) h.2) in
      omega (arith, there, past)

  no_kind : (n : ℕ) → slot_at old p ≡ Some n → allowed (kind_of_field (node_at old.nodes n).object f) ≡ true → HasReason old command R.Kind → ⊥
  no_kind n slot allows h = elim h [
    | inl o ↦
        true≢false (sym allows
        ∙ subst (λ m. allowed (kind_of_field (node_at old.nodes m).object f) ≡ false) (that_one n o.0 slot o.1)
        (asks.other (node_at old.nodes o.0).object o.2))
    | inr w ↦ asks.peeks old.stack w
  ]

  pub field_verdict : (Done : ℕ → Type 0) → ((n : ℕ) → Done n → (why : Refusal) → lines ≡ L.Refused why ∷ [] → ⊥) → AtField allowed old p f lines new Done
      → Verdict old command lines
  field_verdict Done told h =
      either_way (slot_at old p) _ _ (Verdict old command lines)
      (λ none r. first_of_all old command lines R.Null r.0 (asks.spoken old None none) (λ l. no_phase) (λ l x. omega (arith, l)) (λ l x. omega (arith, l))
      (λ l x. omega (arith, l)) (λ l x. omega (arith, l)))
      (λ n slot rest.
      bool_is (nat_lt f (field_count (node_at old.nodes n))) _ _ (Verdict old command lines)
      (λ low more.
      let there : f < field_count (node_at old.nodes n) = ltb-true f (field_count (node_at old.nodes n)) low in
      bool_is (allowed (kind_of_field (node_at old.nodes n).object f)) _ _ (Verdict old command lines)
      (λ allows d.
      done old command lines (told n d) no_phase (no_null n slot) (no_field n slot there) (no_kind n slot allows) (asks.stops old.stack) (asks.lacks old.stack))
      (λ wrong r.
      first_of_all old command lines R.Kind r.0 (inl (n, asks.spoken old (Some n) slot, asks.others (node_at old.nodes n).object wrong)) (λ l. no_phase)
      (λ l. no_null n slot) (λ l. no_field n slot there) (λ l x. omega (arith, l)) (λ l x. omega (arith, l))) more)
      (λ high r.
      first_of_all old command lines R.Field r.0
      (n, asks.spoken old (Some n) slot, asks.missed (node_at old.nodes n) (ltb-false f (field_count (node_at old.nodes n)) high)) (λ l. no_phase)
      (λ l. no_null n slot) (λ l x. omega (arith, l)) (λ l x. omega (arith, l)) (λ l x. omega (arith, l))) rest) h

-- ---- the kinds of fields

no_reference : (kind : Kind) → (kind ≢ Strong) × (kind ≢ Weak) → is_reference kind ≡ false
no_reference Strong h = absurd (h.0 refl)
no_reference Weak h = absurd (h.1 refl)
no_reference Pair h = refl
no_reference Plain h = refl

is_no_reference : (kind : Kind) → is_reference kind ≡ false → (kind ≢ Strong) × (kind ≢ Weak)
is_no_reference Strong e = absurd (true≢false e)
is_no_reference Weak e = absurd (true≢false e)
is_no_reference Pair e = ((λ q. cc), (λ q. cc))
is_no_reference Plain e = ((λ q. cc), (λ q. cc))

no_pair : (kind : Kind) → kind ≢ Pair → is_pair kind ≡ false
no_pair Strong h = refl
no_pair Weak h = refl
no_pair Pair h = absurd (h refl)
no_pair Plain h = refl

is_no_pair : (kind : Kind) → is_pair kind ≡ false → kind ≢ Pair
is_no_pair Strong e = λ q. cc
is_no_pair Weak e = λ q. cc
is_no_pair Pair e = absurd (true≢false e)
is_no_pair Plain e = λ q. cc

no_plain : (kind : Kind) → kind ≢ Plain → is_plain kind ≡ false
no_plain Strong h = refl
no_plain Weak h = refl
no_plain Pair h = refl
no_plain Plain h = absurd (h refl)

is_no_plain : (kind : Kind) → is_plain kind ≡ false → kind ≢ Plain
is_no_plain Strong e = λ q. cc
is_no_plain Weak e = λ q. cc
is_no_plain Pair e = λ q. cc
is_no_plain Plain e = absurd (true≢false e)

-- what these ask for: a reference
pub set_asks : (p f q : ℕ) → AsksField (C.Set p f q) is_reference p f
set_asks p f q = record {
  phase = λ x h. h;
  speaks = λ s c h. h;
  spoken = λ s c h. h;
  missing = λ x h. h;
  missed = λ x h. h;
  other = λ o h. no_reference (kind_of_field o f) h;
  others = λ o e. is_no_reference (kind_of_field o f) e;
  peeks = λ x h. h;
  stops = λ x h. h;
  lacks = λ x h. h;
}

pub set_null_asks : (p f : ℕ) → AsksField (C.SetNull p f) is_reference p f
set_null_asks p f = record {
  phase = λ x h. h;
  speaks = λ s c h. h;
  spoken = λ s c h. h;
  missing = λ x h. h;
  missed = λ x h. h;
  other = λ o h. no_reference (kind_of_field o f) h;
  others = λ o e. is_no_reference (kind_of_field o f) e;
  peeks = λ x h. h;
  stops = λ x h. h;
  lacks = λ x h. h;
}

pub get_asks : (p f q : ℕ) → AsksField (C.Get p f q) is_reference p f
get_asks p f q = record {
  phase = λ x h. h;
  speaks = λ s c h. h;
  spoken = λ s c h. h;
  missing = λ x h. h;
  missed = λ x h. h;
  other = λ o h. no_reference (kind_of_field o f) h;
  others = λ o e. is_no_reference (kind_of_field o f) e;
  peeks = λ x h. h;
  stops = λ x h. h;
  lacks = λ x h. h;
}

-- what these ask for: a pair
pub pair_asks : (p f k v : ℕ) → AsksField (C.Pair p f k v) is_pair p f
pair_asks p f k v = record {
  phase = λ x h. h;
  speaks = λ s c h. h;
  spoken = λ s c h. h;
  missing = λ x h. h;
  missed = λ x h. h;
  other = λ o h. no_pair (kind_of_field o f) h;
  others = λ o e. is_no_pair (kind_of_field o f) e;
  peeks = λ x h. h;
  stops = λ x h. h;
  lacks = λ x h. h;
}

pub pair_null_asks : (p f : ℕ) → AsksField (C.PairNull p f) is_pair p f
pair_null_asks p f = record {
  phase = λ x h. h;
  speaks = λ s c h. h;
  spoken = λ s c h. h;
  missing = λ x h. h;
  missed = λ x h. h;
  other = λ o h. no_pair (kind_of_field o f) h;
  others = λ o e. is_no_pair (kind_of_field o f) e;
  peeks = λ x h. h;
  stops = λ x h. h;
  lacks = λ x h. h;
}

pub key_asks : (p f q : ℕ) → AsksField (C.Key p f q) is_pair p f
key_asks p f q = record {
  phase = λ x h. h;
  speaks = λ s c h. h;
  spoken = λ s c h. h;
  missing = λ x h. h;
  missed = λ x h. h;
  other = λ o h. no_pair (kind_of_field o f) h;
  others = λ o e. is_no_pair (kind_of_field o f) e;
  peeks = λ x h. h;
  stops = λ x h. h;
  lacks = λ x h. h;
}

pub val_asks : (p f q : ℕ) → AsksField (C.Val p f q) is_pair p f
val_asks p f q = record {
  phase = λ x h. h;
  speaks = λ s c h. h;
  spoken = λ s c h. h;
  missing = λ x h. h;
  missed = λ x h. h;
  other = λ o h. no_pair (kind_of_field o f) h;
  others = λ o e. is_no_pair (kind_of_field o f) e;
  peeks = λ x h. h;
  stops = λ x h. h;
  lacks = λ x h. h;
}

-- what these ask for: a plain word
pub put_asks : (p f n : ℕ) → AsksField (C.Put p f n) is_plain p f
put_asks p f n = record {
  phase = λ x h. h;
  speaks = λ s c h. h;
  spoken = λ s c h. h;
  missing = λ x h. h;
  missed = λ x h. h;
  other = λ o h. no_plain (kind_of_field o f) h;
  others = λ o e. is_no_plain (kind_of_field o f) e;
  peeks = λ x h. h;
  stops = λ x h. h;
  lacks = λ x h. h;
}

pub word_asks : (p f : ℕ) → AsksField (C.Word p f) is_plain p f
word_asks p f = record {
  phase = λ x h. h;
  speaks = λ s c h. h;
  spoken = λ s c h. h;
  missing = λ x h. h;
  missed = λ x h. h;
  other = λ o h. no_plain (kind_of_field o f) h;
  others = λ o e. is_no_plain (kind_of_field o f) e;
  peeks = λ x h. h;
  stops = λ x h. h;
  lacks = λ x h. h;
}
