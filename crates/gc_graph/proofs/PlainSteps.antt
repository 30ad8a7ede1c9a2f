-- A plain command comes out in one of few ways: the one place that looks at a step of each of them by cases.
use Rattle.std.proofs.Common.{◌≡◌, ℕ, ◌+◌, nat_lt, Bool, true, false, true≢false, List, [], ◌∷◌, length, drop, Option, None, refl, sym, ap, ◌∙◌, subst}
use Rattle.std.specs.List.{slice_get}
use Rattle.std.proofs.lemmas.Bool.{cond-true}
use Rattle.std.proofs.lemmas.List.Elements.{All-cons, All-drop}
use Rattle.gc_graph.specs.declared.command.Command.{Command}
use Rattle.gc_graph.specs.declared.command.Command.TheVariants as C
use Rattle.gc_graph.specs.declared.kind.Kind.{Kind}
use Rattle.gc_graph.specs.declared.kind.Kind.TheVariants.{Strong, Weak, Pair, Plain}
use Rattle.gc_graph.specs.declared.kind.Value.{Value}
use Rattle.gc_graph.specs.declared.kind.Value.TheVariants.{Null, Ref, Word}
use Rattle.gc_graph.specs.declared.line.Line.{Line}
use Rattle.gc_graph.specs.declared.line.Line.TheVariants as L
use Rattle.gc_graph.specs.declared.line.Refusal.{Refusal}
use Rattle.gc_graph.specs.declared.line.Refusal.TheVariants as R
use Rattle.gc_graph.specs.declared.region.Entry.{Entry}
use Rattle.gc_graph.specs.State.{Setup, State, StackWord, node_at, IsLive, size_of}
use Rattle.gc_graph.specs.State.StackWord.{Pointer, Number}
use Rattle.gc_graph.specs.Fields.{kind_of_field, value_at, content_of, is_reference, is_weak, is_pair, is_plain}
use Rattle.gc_graph.specs.Outcomes.{answered, IsRefused, slot_at, weak_slot_at}
use Rattle.gc_graph.specs.ObjectSteps.{AtField, first_word, IsNumber, IsRead}
use Rattle.gc_graph.specs.HandleSteps.{IsDone, pushed, IsPushed, IsPeeked}
use Rattle.gc_graph.specs.Step.{Step}
use Rattle.gc_graph.specs.Commands.{family_of, WritesSlot, WritesStack, IsWordAt, WritesWord, own_reads, told, is_weak_field}
use Rattle.gc_graph.specs.FamilyLines as F
use Rattle.gc_graph.proofs.Sound.{SlotNames, WordNames, slot_weaker, IsSound}
use Rattle.gc_graph.proofs.ValidCases.{option_is, bool_is, IsFound, field_is}
use Rattle.gc_graph.proofs.ValidHandles.{Root, slot_names, slot_root, slot_is_root, ValueLive, ValueRoot, content_live, IfWord, word_names}
use Rattle.gc_graph.proofs.ValidWrites.{follows_of}
use Rattle.gc_graph.proofs.ValidReads.{names_at, value_live, value_root, strong_held}
use Rattle.gc_graph.proofs.Effects.{Effect, line_of_effect, with_effect, WhereSound, IsReadable, WritesField, Fits, IsInKind, ComesOut}
use Rattle.gc_graph.proofs.Effects.Effect.{Refuses, Tells, Fills, Empties, Gets, Weakens, Stacks, Sets, Puts, Pairs}

-- ---- what a read gives

-- the value names a node that may be read so
abbrev Gives : Bool → State → Value → Type 0
Gives weak s value = (n : ℕ) → value ≡ Ref n → WhereSound s (IsReadable weak s n)

kind_gives : (setup : Setup) (s : State) (n f m : ℕ) (kind : Kind) → IsSound setup s → Root s n → kind_of_field (node_at s.nodes n).object f ≡ kind
    → is_reference kind ≡ true → value_at (node_at s.nodes n) (first_word s n f) ≡ Ref m → IsReadable (is_weak kind) s m
kind_gives setup s n f m Strong g root e r is =
    subst (ValueRoot s) is
    (value_root s (value_at (node_at s.nodes n) (first_word s n f)) (names_at setup s n (first_word s n f) g root)
    (strong_held s.phase s.may (node_at s.nodes n) f e (follows_of s.phase s.nodes s.may n g.may root.in_may)))
kind_gives setup s n f m Weak g root e r is =
    subst (ValueLive s) is (value_live s (value_at (node_at s.nodes n) (first_word s n f)) (names_at setup s n (first_word s n f) g root))
kind_gives setup s n f m Pair g root e r is = absurd (true≢false (sym r))
kind_gives setup s n f m Plain g root e r is = absurd (true≢false (sym r))

field_gives : (s : State) (p f n : ℕ) → IsFound is_reference s p f n
    → Gives (is_weak (kind_of_field (node_at s.nodes n).object f)) s (value_at (node_at s.nodes n) (first_word s n f))
field_gives s p f n found m is setup g =
    kind_gives setup s n f m (kind_of_field (node_at s.nodes n).object f) g (slot_is_root setup s p n g found.slot) refl found.allows is

part_gives : (s : State) (p f n word : ℕ) → IsFound is_pair s p f n → Gives true s (value_at (node_at s.nodes n) word)
part_gives s p f n word found m is setup g =
    subst (ValueLive s) is
    (value_live s (value_at (node_at s.nodes n) word) (names_at setup s n word g (slot_is_root setup s p n g found.slot)))

weak_slot_gives : (s : State) (w : ℕ) → Gives true s (content_of (weak_slot_at s w))
weak_slot_gives s w m is setup g =
    subst (ValueLive s) is (content_live s (weak_slot_at s w) (slot_names (IsLive s.nodes) s.weak w g.weak))

-- ---- the ways

module _ (old new : State) (command : Command) (piece : List Entry) (lines : List Line) (none : piece ≡ []) where
  abbrev Comes : Type 0
  Comes = ComesOut old command piece lines new

  -- the line and the state are those of the effect
  abbrev Has : Effect → Type 0
  Has effect = (lines ≡ line_of_effect effect ∷ []) × (new ≡ answered (with_effect old effect))

  comes : (effect : Effect) → IsInKind command (line_of_effect effect) → Fits old command lines effect → Has effect → Comes
  comes effect kind fits h = record { effect = effect; none = none; lines_are = h.0; after = h.1; fits = fits; kind = kind }

  refused : (why : Refusal) → IsRefused why old lines new → Comes
  refused why h = comes (Refuses why) refl tt h

  fill : (q : ℕ) (content : Option ℕ) → IsInKind command L.Fine → WritesSlot command q → WhereSound old (SlotNames (Root old) content)
      → Has (Fills q content) → Comes
  fill q content kind writes names h = comes (Fills q content) kind (writes, names) h

  -- a field that was found is written
  writes_field : (allowed : Kind → Bool) (p f n : ℕ) → IsFound allowed old p f n → ((m word : ℕ) → IsWordAt old p f m word → WritesWord old command m word)
      → WritesField allowed old command n f
  writes_field allowed p f n found words = record {
    root = λ setup g. slot_is_root setup old p n g found.slot;
    allows = found.allows;
    words = λ word at. words n word (found.slot, at);
  }

  at : (allowed : Kind → Bool) (p f : ℕ) (effect : ℕ → Effect) → ((n : ℕ) → IsInKind command (line_of_effect (effect n)))
      → ((n : ℕ) → IsFound allowed old p f n → Fits old command lines (effect n)) → AtField allowed old p f lines new (λ n. Has (effect n)) → Comes
  at allowed p f effect kind fits h =
      field_is allowed old new p f lines (λ n. Has (effect n)) Comes (λ n found d. comes (effect n) (kind n) (fits n found) d) refused h

  set : (p f : ℕ) (content : Option ℕ) → IsInKind command L.Fine → ((m word : ℕ) → IsWordAt old p f m word → WritesWord old command m word)
      → WhereSound old (SlotNames (Root old) content) → AtField is_reference old p f lines new (λ n. Has (Sets n f content)) → Comes
  set p f content kind words names h =
      at is_reference p f (λ n. Sets n f content) (λ n. kind) (λ n found. (writes_field is_reference p f n found words, names)) h

  pair : (p f : ℕ) (key value : Option ℕ) → IsInKind command L.Fine → ((m word : ℕ) → IsWordAt old p f m word → WritesWord old command m word)
      → WhereSound old (SlotNames (Root old) key × SlotNames (Root old) value)
      → AtField is_pair old p f lines new (λ n. Has (Pairs n f key value)) → Comes
  pair p f key value kind words names h =
      at is_pair p f (λ n. Pairs n f key value) (λ n. kind) (λ n found. (writes_field is_pair p f n found words, names)) h

  read : (weak : Bool) (value : Value) (q : ℕ) → IsInKind command L.Null → ((n : ℕ) → IsInKind command (L.Node n)) → WritesSlot command q
      → Gives weak old value → (weak ≡ true → own_reads old command lines ≡ told lines) → IsRead weak old value q lines new → Comes
  read weak Null q null node writes gives reads h = comes (Empties q) null writes h
  read weak (Ref n) q null node writes gives reads h = comes (Gets weak q n) (node n) (record { writes = writes; node = gives n refl; reads = reads }) h
  read weak (Word w) q null node writes gives reads h = absurd h

  read_at : (allowed : Kind → Bool) (p f q : ℕ) (weak : ℕ → Bool) (value : ℕ → Value) → IsInKind command L.Null
      → ((n : ℕ) → IsInKind command (L.Node n)) → WritesSlot command q
      → ((n : ℕ) → IsFound allowed old p f n → Gives (weak n) old (value n))
      → ((n : ℕ) → IsFound allowed old p f n → weak n ≡ true → own_reads old command lines ≡ told lines)
      → AtField allowed old p f lines new (λ n. IsRead (weak n) old (value n) q lines new) → Comes
  read_at allowed p f q weak value null node writes gives reads h =
      field_is allowed old new p f lines (λ n. IsRead (weak n) old (value n) q lines new) Comes
      (λ n found d. read (weak n) (value n) q null node writes (gives n found) (reads n found) d) refused h

  tell : (n word : ℕ) (value : Value) → ((w : ℕ) → IsInKind command (L.Word w)) → value_at (node_at old.nodes n) word ≡ value
      → IsNumber old value lines new → Comes
  tell n word Null word_kind is h = absurd h
  tell n word (Ref m) word_kind is h = absurd h
  tell n word (Word w) word_kind is h = comes (Tells w) (word_kind w) (n, word, is) h

  -- ---- the stack

  push : (word : StackWord) → IsInKind command L.Fine → WritesStack command → WhereSound old (WordNames (Root old) word)
      → IsPushed old word lines new → Comes
  push word kind writes names h =
      bool_is (nat_lt (length old.stack) 1024) (IsDone (pushed old word) lines new) (IsRefused R.Stack old lines new) Comes
      (λ e d. comes (Stacks (word ∷ old.stack)) kind (writes, λ setup g. All-cons (WordNames (Root old)) word old.stack (names setup g) g.stack) d)
      (λ e r. refused R.Stack r) h

  peek : (word : StackWord) (q : ℕ) → ((n : ℕ) → IsInKind command (L.Node n)) → WritesSlot command q → WhereSound old (WordNames (Root old) word)
      → IsPeeked old word q lines new → Comes
  peek (Pointer n offset) q node writes names h =
      comes (Gets false q n) (node n) (record { writes = writes; node = names; reads = λ e. absurd (true≢false (sym e)) }) h
  peek (Number w) q node writes names h = refused R.Kind h

-- ---- every plain command

pub plain_step : (setup : Setup) (old new : State) (command : Command) (piece : List Entry) (lines : List Line) → F.is_plain (family_of command) ≡ true
    → Step setup old command piece lines new → ComesOut old command piece lines new
plain_step setup old new (C.Set p f q) piece lines its h =
    set old new (C.Set p f q) piece lines h.0 p f (slot_at old q) refl (λ n word at. at) (λ s g. slot_root s old q g) h.1
plain_step setup old new (C.SetNull p f) piece lines its h = set old new (C.SetNull p f) piece lines h.0 p f None refl (λ n word at. at) (λ s g. tt) h.1
plain_step setup old new (C.Pair p f k v) piece lines its h =
    pair old new (C.Pair p f k v) piece lines h.0 p f (slot_at old k) (slot_at old v) refl (λ n word at. at)
    (λ s g. (slot_root s old k g, slot_root s old v g)) h.1
plain_step setup old new (C.PairNull p f) piece lines its h =
    pair old new (C.PairNull p f) piece lines h.0 p f None None refl (λ n word at. at) (λ s g. (tt, tt)) h.1
plain_step setup old new (C.Put p f w) piece lines its h =
    at old new (C.Put p f w) piece lines h.0 is_plain p f (λ n. Puts n f w) (λ n. refl)
    (λ n found. (writes_field old new (C.Put p f w) piece lines h.0 is_plain p f n found (λ m word at. at), λ types allowed. allowed.2)) h.1
plain_step setup old new (C.Word p f) piece lines its h =
    field_is is_plain old new p f lines _ (ComesOut old (C.Word p f) piece lines new)
    (λ n found d. tell old new (C.Word p f) piece lines h.0 n (first_word old n f) (value_at (node_at old.nodes n) (first_word old n f)) (λ w. refl) refl d)
    (refused old new (C.Word p f) piece lines h.0) h.1
plain_step setup old new (C.Get p f q) piece lines its h =
    read_at old new (C.Get p f q) piece lines h.0 is_reference p f q (λ n. is_weak (kind_of_field (node_at old.nodes n).object f))
    (λ n. value_at (node_at old.nodes n) (first_word old n f)) refl (λ n. refl) refl (field_gives old p f)
    (λ n found weak. cond-true (is_weak_field old (slot_at old p) f) (told lines) [] (ap (λ s. is_weak_field old s f) found.slot ∙ weak)) h.1
plain_step setup old new (C.Key p f q) piece lines its h =
    read_at old new (C.Key p f q) piece lines h.0 is_pair p f q (λ n. true) (λ n. value_at (node_at old.nodes n) (first_word old n f)) refl (λ n. refl) refl
    (λ n found. part_gives old p f n (first_word old n f) found) (λ n found weak. refl) h.1
plain_step setup old new (C.Val p f q) piece lines its h =
    read_at old new (C.Val p f q) piece lines h.0 is_pair p f q (λ n. true) (λ n. value_at (node_at old.nodes n) (first_word old n f + 1)) refl (λ n. refl) refl
    (λ n found. part_gives old p f n (first_word old n f + 1) found) (λ n found weak. refl) h.1
plain_step setup old new (C.Copy p q) piece lines its h =
    fill old new (C.Copy p q) piece lines h.0 q (slot_at old p) refl refl (λ s g. slot_root s old p g) h.1
plain_step setup old new (C.Drop p) piece lines its h = fill old new (C.Drop p) piece lines h.0 p None refl refl (λ s g. tt) h.1
plain_step setup old new (C.Weak w p) piece lines its h =
    comes old new (C.Weak w p) piece lines h.0 (Weakens w (slot_at old p)) refl
    (refl, λ s g. slot_weaker (Root old) (IsLive old.nodes) (λ n r. r.live) (slot_at old p) (slot_root s old p g)) h.1
plain_step setup old new (C.Read w p) piece lines its h =
    read old new (C.Read w p) piece lines h.0 true (content_of (weak_slot_at old w)) p refl (λ n. refl) refl (weak_slot_gives old w) (λ e. refl) h.1
plain_step setup old new (C.Push p o) piece lines its h =
    option_is (slot_at old p) _ _ (ComesOut old (C.Push p o) piece lines new) (refused old new (C.Push p o) piece lines h.0 R.Null)
    (λ n slot. bool_is (nat_lt o (size_of (node_at old.nodes n))) _ _ (ComesOut old (C.Push p o) piece lines new)
    (λ e. push old new (C.Push p o) piece lines h.0 (Pointer n o) refl tt (λ s g. slot_is_root s old p n g slot))
    (λ e. refused old new (C.Push p o) piece lines h.0 R.Field)) h.1
plain_step setup old new (C.PushPlain w) piece lines its h = push old new (C.PushPlain w) piece lines h.0 (Number w) refl tt (λ s g. tt) h.1
plain_step setup old new C.Pop piece lines its h =
    bool_is (nat_lt 0 (length old.stack)) _ _ (ComesOut old C.Pop piece lines new)
    (λ e. comes old new C.Pop piece lines h.0 (Stacks (drop 1 old.stack)) refl (tt, λ s g. All-drop (WordNames (Root old)) 1 old.stack g.stack))
    (λ e. refused old new C.Pop piece lines h.0 R.Empty) h.1
plain_step setup old new (C.Peek i q) piece lines its h =
    option_is (slice_get old.stack i) _ _ (ComesOut old (C.Peek i q) piece lines new) (refused old new (C.Peek i q) piece lines h.0 R.Empty)
    (λ word is. peek old new (C.Peek i q) piece lines h.0 word q (λ n. refl) refl
    (λ s g. subst (IfWord (WordNames (Root old))) is (word_names (WordNames (Root old)) old.stack i g.stack))) h.1
plain_step setup old new command piece lines its h = absurd (true≢false (sym its))
