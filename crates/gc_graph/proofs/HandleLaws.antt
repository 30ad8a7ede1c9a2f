-- What was put into a handle, onto the stack or into the region is read back.
use Rattle.std.proofs.Common.{◌≡◌, ℕ, suc, ◌+◌, ◌<◌, true, List, [], ◌∷◌, ◌++◌, length, drop, nat_lt, Some, None, refl, sym, ap, ◌∙◌, subst, inl, inr, arith}
use Rattle.std.specs.List.{slice_get}
use Rattle.std.proofs.lemmas.Bool.{lt-ltb}
use Rattle.std.proofs.lemmas.List.{get_or-set_same, length-append}
use Rattle.gc_graph.specs.declared.line.Line.{Line}
use Rattle.gc_graph.specs.declared.line.Line.TheVariants as L
use Rattle.gc_graph.specs.declared.line.Refusal.TheVariants as R
use Rattle.gc_graph.specs.declared.region.Entry.{Entry}
use Rattle.gc_graph.specs.declared.region.Op.TheVariants as O
use Rattle.gc_graph.specs.State.{State, StackWord, node_at, size_of}
use Rattle.gc_graph.specs.State.StackWord.{Pointer, Number}
use Rattle.gc_graph.specs.State.RegionSlot.{Vacant, StrongTo}
use Rattle.gc_graph.specs.Fields.{content_of}
use Rattle.gc_graph.specs.History.{node_of, region_slot}
use Rattle.gc_graph.specs.Outcomes.{answered, with_entry, took, slot_at, weak_slot_at, IsRefused}
use Rattle.gc_graph.specs.ObjectSteps.{IsRead}
use Rattle.gc_graph.specs.HandleSteps.{IsDone, pushed, IsPushed, IsPeeked, StepWeak, StepRead, StepPush, StepPop, StepPeek}
use Rattle.gc_graph.specs.RegionSteps.{StepExport, StepImport, line_of_content}
use Rattle.gc_graph.specs.Replays.{region_after_length}
use Rattle.gc_graph.specs.AccessLaw.{IsGiven, WrittenIsReadBack}
use Rattle.gc_graph.proofs.StepCases.{match_bool}
use Rattle.gc_graph.proofs.ValidCases.{option_is}
use Rattle.gc_graph.proofs.ValidRegion.{took_slots, took_own}
use Rattle.gc_graph.proofs.FieldPlaces.{when, at_some}
use Rattle.gc_graph.proofs.AccessLaws.{slot_put, given, set_given, put_read, key_given, value_given}

-- ---- weak slots

weak_given : (old mid new : State) (w p r : ℕ) (lines : List Line) → w < length old.weak → r < length old.slots → StepWeak old w p (L.Fine ∷ []) mid
    → StepRead mid w r lines new → IsGiven (slot_at old p) r lines new
weak_given old mid new w p r lines l room h k =
    let is : weak_slot_at mid w ≡ slot_at old p = ap (λ (s : State). weak_slot_at s w) h.1 ∙ get_or-set_same old.weak w (slot_at old p) None l in
    given true mid new (slot_at old p) r lines (subst (λ ss. r < length ss) (sym (ap (λ (s : State). s.slots) h.1)) room)
    (subst (λ c. IsRead true mid (content_of c) r lines new) is k)

-- ---- the stack

-- the word was pushed
record HasPushed (old : State) (word : StackWord) (mid : State) : Type 0 where
  stack : mid.stack ≡ word ∷ old.stack
  slots : mid.slots ≡ old.slots

has_pushed : (old mid : State) (word : StackWord) → IsPushed old word (L.Fine ∷ []) mid → HasPushed old word mid
has_pushed old mid word h =
    match_bool (nat_lt (length old.stack) 1024) (IsDone (pushed old word) (L.Fine ∷ []) mid) (IsRefused R.Stack old (L.Fine ∷ []) mid) (HasPushed old word mid)
    (λ d. record { stack = ap (λ (s : State). s.stack) d.1; slots = ap (λ (s : State). s.slots) d.1 }) (λ r. (let e = r.0 in absurd cc)) h

-- the slot's node was pushed
pointer_pushed : (old mid : State) (p o : ℕ) → StepPush old p o (L.Fine ∷ []) mid
    → (n : ℕ) × (slot_at old p ≡ Some n) × HasPushed old (Pointer n o) mid
pointer_pushed old mid p o h =
    option_is (slot_at old p) _ _ _ (λ r. (let e = r.0 in absurd cc))
    (λ n slot m. match_bool (nat_lt o (size_of (node_at old.nodes n))) (IsPushed old (Pointer n o) (L.Fine ∷ []) mid) (IsRefused R.Field old (L.Fine ∷ []) mid) _
    (λ d. (n, slot, has_pushed old mid (Pointer n o) d)) (λ r. (let e = r.0 in absurd cc)) m) h

peek_given : (mid new : State) (i r n o : ℕ) (lines : List Line) → slice_get mid.stack i ≡ Some (Pointer n o) → r < length mid.slots
    → StepPeek mid i r lines new → IsGiven (Some n) r lines new
peek_given mid new i r n o lines there room h =
    let d : IsPeeked mid (Pointer n o) r lines new = at_some (slice_get mid.stack i) (Pointer n o) _ _ there h in
    (d.0, slot_put new mid r (Some n) mid.slots d.1 refl room)

pushed_given : (old mid new : State) (p o r : ℕ) (lines : List Line) → r < length old.slots → StepPush old p o (L.Fine ∷ []) mid
    → StepPeek mid 0 r lines new → IsGiven (slot_at old p) r lines new
pushed_given old mid new p o r lines room h k =
    let d = pointer_pushed old mid p o h in
    subst (λ content. IsGiven content r lines new) (sym d.1)
    (peek_given mid new 0 r d.0 o lines (ap (λ stack. slice_get stack 0) d.2.stack) (subst (λ ss. r < length ss) (sym d.2.slots) room) k)

peeked_word : (old first : State) (word : StackWord) (r n : ℕ) → IsPeeked old word r (L.Node n ∷ []) first → (o : ℕ) × (word ≡ Pointer n o)
peeked_word old first (Pointer m o) r n h = (o, (let e = h.0 in cc))
peeked_word old first (Number w) r n h = (let e = h.0 in absurd cc)

deeper_given : (old first mid new : State) (p o i r n : ℕ) (lines : List Line) → r < length old.slots → StepPeek old i r (L.Node n ∷ []) first
    → StepPush old p o (L.Fine ∷ []) mid → StepPeek mid (i + 1) r lines new → IsGiven (Some n) r lines new
deeper_given old first mid new p o i r n lines room before h k =
    let d = pointer_pushed old mid p o h in
    let was : (w : ℕ) × (slice_get old.stack i ≡ Some (Pointer n w)) =
    option_is (slice_get old.stack i) _ _ _ (λ x. (let e = x.0 in absurd cc))
    (λ word there m. (let q = peeked_word old first word r n m in (q.0, there ∙ ap (λ w. Some w) q.1))) before in
    let next : i + 1 ≡ suc i = omega arith in
    peek_given mid new (i + 1) r n was.0 lines
    (ap (λ stack. slice_get stack (i + 1)) d.2.stack ∙ ap (λ k. slice_get (Pointer d.0 o ∷ old.stack) k) next ∙ was.1)
    (subst (λ ss. r < length ss) (sym d.2.slots) room) k

popped_back : (old mid new : State) (word : StackWord) (lines : List Line) → HasPushed old word mid → StepPop mid lines new → new.stack ≡ old.stack
popped_back old mid new word lines h k =
    let some : nat_lt 0 (length mid.stack) ≡ true = lt-ltb 0 (length mid.stack) (let long = ap length h.stack in omega (arith, long)) in
    let d : IsDone (record mid { stack = drop 1 mid.stack }) lines new = when (nat_lt 0 (length mid.stack)) _ _ some k in
    ap (λ (s : State). s.stack) d.1 ∙ ap (drop 1) h.stack

-- ---- the region

took_long : (s : State) (entries : List Entry) → length (took s entries).region ≡ length s.region
took_long s [] = refl
took_long s (entry ∷ entries) = took_long (with_entry s entry) entries ∙ region_after_length s.region entry.op

-- the slot of the region is strong for the node of the slot
exported_slot : (old mid : State) (p x : ℕ) (piece : List Entry) → x < length old.region → StepExport old p x piece (L.Fine ∷ []) mid
    → (n : ℕ) × (slot_at old p ≡ Some n) × (region_slot mid.region x ≡ StrongTo n) × (mid.slots ≡ old.slots)
exported_slot old mid p x piece l h =
    option_is (slot_at old p) _ _ _ (λ r. (let e = r.1.0 in absurd cc))
    (λ n slot done. elim done [
      | inl memory ↦ (let e = memory.1.0 in absurd cc)
      | inr d ↦
          let long = took_long old d.before in (
            n,
            slot,
            ap (λ (s : State). region_slot s.region x) (d.after ∙ ap answered (took_own old d.before piece (O.Export x n) d.takes.piece_is))
                ∙ get_or-set_same (took old d.before).region x (StrongTo n) Vacant (omega (arith, long, l)),
            ap (λ (s : State). s.slots) d.after ∙ took_slots old piece,
          )
    ]) h

none_before : (before : List Entry) (entry own : Entry) → entry ∷ [] ≡ before ++ own ∷ [] → before ≡ []
none_before [] entry own e = refl
none_before (b ∷ before) entry own e =
    let long : 1 ≡ length (b ∷ before ++ own ∷ []) = ap length e in absurd (omega (arith, long, length-append before (own ∷ [])))

exported_given : (old mid new : State) (p x r : ℕ) (piece : List Entry) (entry : Entry) (lines : List Line) → x < length old.region
    → r < length old.slots → StepExport old p x piece (L.Fine ∷ []) mid → StepImport mid x r (entry ∷ []) lines new
    → IsGiven (slot_at old p) r lines new
exported_given old mid new p x r piece entry lines l room h k =
    let d = exported_slot old mid p x piece l h in
    elim k [
      | inl memory ↦ (let e = memory.0 in absurd cc)
      | inr i ↦
          let none : i.before ≡ [] = none_before i.before entry _ i.takes.piece_is in
          let is : node_of (region_slot (took mid i.before).region x) ≡ slot_at old p =
          ap (λ before. node_of (region_slot (took mid before).region x)) none ∙ ap node_of d.2 ∙ sym d.1 in (
            i.lines_are ∙ ap (λ content. line_of_content content ∷ []) is,
            slot_put new (took mid (entry ∷ [])) r _ old.slots i.after (took_slots mid (entry ∷ []) ∙ d.3) room ∙ is,
          )
    ]

-- ---- all of them

pub written_is_read_back : WrittenIsReadBack
written_is_read_back setup old mid new r lines valid room = record {
  set = λ p f q h. set_given setup old mid new valid p f r (slot_at old q) lines room h.done.1 h.next.1;
  set_null = λ p f h. set_given setup old mid new valid p f r None lines room h.done.1 h.next.1;
  key = λ p f k v h. key_given setup old mid new valid p f r (slot_at old k) (slot_at old v) lines room h.done.1 h.next.1;
  value = λ p f k v h. value_given setup old mid new valid p f r (slot_at old k) (slot_at old v) lines room h.done.1 h.next.1;
  key_null = λ p f h. key_given setup old mid new valid p f r None None lines room h.done.1 h.next.1;
  value_null = λ p f h. value_given setup old mid new valid p f r None None lines room h.done.1 h.next.1;
  put = λ p f n h. put_read setup old mid new valid p f n lines h.done.1 h.next.1;
  weak = λ w p l h. weak_given old mid new w p r lines l room h.done.1 h.next.1;
  pushed = λ p o h. pushed_given old mid new p o r lines room h.done.1 h.next.1;
  deeper = λ p o i n first before h. deeper_given old first mid new p o i r n lines room before.1 h.done.1 h.next.1;
  popped = λ p o h. (let d = pointer_pushed old mid p o h.done.1 in popped_back old mid new (Pointer d.0 o) lines d.2 h.next.1);
  popped_plain = λ n h. popped_back old mid new (Number n) lines (has_pushed old mid (Number n) h.done.1) h.next.1;
  exported = λ p x entry l h. exported_given old mid new p x r h.piece entry lines l room h.done h.next;
}
