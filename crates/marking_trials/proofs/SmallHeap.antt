-- The heap of two objects on which tracing is tried.
use Rattle.std.proofs.Common.{◌≡◌, ◌⊎◌, ◌↔◌, ℕ, zero, suc, ◌+◌, Bool, true, None, List, map, [], ◌∷◌, ◌++◌, refl, sym, ap, ◌∙◌, subst, inl, inr, arith}
use Rattle.std.specs.List.{Contains}
use Rattle.gc_graph.specs.Members.{Contains-head, Contains-cons, Contains-cons_cases}
use Rattle.marker_core.specs.declared.states.Body.{Body}
use Rattle.marker_core.specs.declared.states.Role.TheVariants.{StrongWord, KeyWord, ValueWord, PlainWord}
use Rattle.marker_core.specs.Bodies.{IsPlace, holds, role_in, word_in, with_word}
use Rattle.page_words.specs.Roles.{kind_lists}
use Rattle.page_words.specs.Seat.{Heap, SeatView, PairsAreWhole, empty_view, begun, marked_at, stored}
use Rattle.page_space.specs.Occupying.{Occupies, new_body}
use Rattle.pair_notes.specs.BodyGraph.{HasType, BodyHasPair}
use Rattle.pair_notes.specs.declared.notes.Note.{Note}
use Rattle.gc_graph.specs.declared.kind.Kind.TheVariants.{Pair}
use Rattle.type_table.specs.Types.{declared_kinds, offsets_of_kind}
use Rattle.marking_trials.specs.SmallHeap.{pair_then_strong, two_bodies, IsSmallHeap, IsSmallHeapTraced, IsEitherPlace, IsEitherPair}
use Rattle.pair_notes.specs.InHand.{Claims}
use Rattle.pair_notes.specs.Notes.{NotesState, IsNotedIn, group_at}
use Rattle.ephemerons.specs.Fixpoint.{ListsMarks}
use Rattle.mark_worklist.specs.declared.marking.Marking.{Marking}
use Rattle.mark_worklist.specs.OneMore.{was_there}
use Rattle.mark_worklist.specs.Refusals.{PushesOrTells}

abbrev first : ℕ → ℕ → ℕ → Body
first k w s = record { place = 0; ty = 0; size = 5; serial = 1; fields = k ∷ w ∷ s ∷ [] }

abbrev second : Body
second = record { place = 256; ty = 0; size = 5; serial = 2; fields = 0 ∷ 0 ∷ 0 ∷ [] }

either_body : (k w s : ℕ) (b : Body) → Contains (two_bodies k w s) b → (first k w s ≡ b) ⊎ (second ≡ b)
either_body k w s b there = elim (Contains-cons_cases (first k w s) (second ∷ []) b there) [
  | inl here ↦ inl here
  | inr later ↦ elim (Contains-cons_cases second [] b later) [ inl here ↦ inr here | inr none ↦ absurd (omega (arith, none.1)) ]
]

pub holder_there : (k w s : ℕ) → IsPlace (two_bodies k w s) 0
holder_there k w s = (first k w s, Contains-head (first k w s) (second ∷ []), refl)

pub other_there : (k w s : ℕ) → IsPlace (two_bodies k w s) 256
other_there k w s = (second, Contains-cons (first k w s) (second ∷ []) second (Contains-head second []), refl)

pub only_type : (k w s place ty : ℕ) → HasType (two_bodies k w s) place ty → ty ≡ 0
only_type k w s place ty has = sym has.3 ∙ elim (either_body k w s has.0 has.1) [
  | inl one ↦ sym (ap (λ (b : Body). b.ty) one)
  | inr other ↦ sym (ap (λ (b : Body). b.ty) other)
]

-- the key is the first word
key_first : (i : ℕ) (b : Body) → b.ty ≡ 0 → role_in (kind_lists pair_then_strong) b i ≡ KeyWord → i ≡ 0
key_first zero b ty key = refl
key_first (suc zero) b ty key = absurd (let e : ValueWord ≡ KeyWord = subst (λ t. role_in (kind_lists pair_then_strong) (record b { ty = t }) 1 ≡ KeyWord) ty key in cc)
key_first (suc (suc zero)) b ty key = absurd (let e : StrongWord ≡ KeyWord = subst (λ t. role_in (kind_lists pair_then_strong) (record b { ty = t }) 2 ≡ KeyWord) ty key in cc)
key_first (suc (suc (suc i))) b ty key = absurd (let e : PlainWord ≡ KeyWord = subst (λ t. role_in (kind_lists pair_then_strong) (record b { ty = t }) (suc (suc (suc i))) ≡ KeyWord) ty key in cc)

pub pairs_whole : (v : SeatView) (k w s : ℕ) → IsSmallHeap v k w s → (k ≡ 0) ↔ (w ≡ 0) → PairsAreWhole v
pairs_whole v k w s small both b i there role =
    let here : Contains (two_bodies k w s) b = subst (λ bs. Contains bs b) small.bodies there in
    let known : role_in (kind_lists pair_then_strong) b i ≡ KeyWord = subst (λ ts. role_in (kind_lists ts) b i ≡ KeyWord) small.known role in
    elim (either_body k w s b here) [
      | inl one ↦
          (let at : i ≡ 0 = key_first i b (sym (ap (λ (c : Body). c.ty) one)) known in
          subst (λ j. (word_in b j ≡ 0) ↔ (word_in b (j + 1) ≡ 0)) (sym at)
          (subst (λ (c : Body). (word_in c 0 ≡ 0) ↔ (word_in c 1 ≡ 0)) one both))
      | inr other ↦
          (let at : i ≡ 0 = key_first i b (sym (ap (λ (c : Body). c.ty) other)) known in
          subst (λ j. (word_in b j ≡ 0) ↔ (word_in b (j + 1) ≡ 0)) (sym at)
          (subst (λ (c : Body). (word_in c 0 ≡ 0) ↔ (word_in c 1 ≡ 0)) other (λ e. e, λ e. e)))
    ]

-- two objects with null fields were made
pub small_made : (u v w : SeatView) (heap : Heap) → u ≡ empty_view heap pair_then_strong → Occupies u v (new_body 0 0 5 1) → Occupies v w (new_body 256 0 5 2)
    → IsSmallHeap w 0 0 0
small_made u v w heap is one two = record {
  known = two.types ∙ one.types ∙ ap (λ (x : SeatView). x.types) is;
  quiet = record {
    off = two.on ∙ one.on ∙ ap (λ (x : SeatView). x.on) is;
    marked = two.marked ∙ one.marked ∙ ap (λ (x : SeatView). x.marked) is;
    traced = two.traced ∙ one.traced ∙ ap (λ (x : SeatView). x.traced) is;
    dead = two.dead ∙ one.dead ∙ ap (λ (x : SeatView). x.dead) is;
  };
  bodies = two.bodies ∙ ap (λ bs. bs ++ new_body 256 0 5 2 ∷ []) (one.bodies ∙ ap (λ (x : SeatView). x.bodies ++ new_body 0 0 5 1 ∷ []) is);
}

pub either_place : (k w s p : ℕ) → IsEitherPlace p → IsPlace (two_bodies k w s) p
either_place k w s p either = elim either [
  | inl one ↦ subst (IsPlace (two_bodies k w s)) (sym one) (holder_there k w s)
  | inr other ↦ subst (IsPlace (two_bodies k w s)) (sym other) (other_there k w s)
]

pub place_either : (k w s p : ℕ) → IsPlace (two_bodies k w s) p → IsEitherPlace p
place_either k w s p at = elim (either_body k w s at.0 at.1) [
  | inl one ↦ inl (sym at.2 ∙ sym (ap (λ (b : Body). b.place) one))
  | inr other ↦ inr (sym at.2 ∙ sym (ap (λ (b : Body). b.place) other))
]

-- each has one pair
pub pair_either : (k w s : ℕ) (note : Note) → BodyHasPair pair_then_strong (two_bodies k w s) note.holder note.word → IsEitherPair note
pair_either k w s note has =
    let ty : has.0.ty ≡ 0 = only_type k w s note.holder has.0.ty (has.0, has.1, has.2, refl) in
    let among : Contains (2 ∷ []) note.word = subst (λ t. Contains (offsets_of_kind Pair (declared_kinds pair_then_strong t)) note.word) ty has.3 in
    record {
      holder = place_either k w s note.holder (has.0, has.1, has.2);
      word = elim (Contains-cons_cases 2 [] note.word among) [ inl here ↦ sym here | inr none ↦ absurd (omega (arith, none.1)) ];
    }

pub either_pair : (k w s : ℕ) (note : Note) → IsEitherPair note → BodyHasPair pair_then_strong (two_bodies k w s) note.holder note.word
either_pair k w s note is =
    let at : IsPlace (two_bodies k w s) note.holder = either_place k w s note.holder is.holder in
    let ty : at.0.ty ≡ 0 = only_type k w s note.holder at.0.ty (at.0, at.1, at.2, refl) in
    let among : Contains (2 ∷ []) note.word = subst (Contains (2 ∷ [])) (sym is.word) (Contains-head 2 []) in
    (at.0, at.1, at.2, subst (λ t. Contains (offsets_of_kind Pair (declared_kinds pair_then_strong t)) note.word) (sym ty) among)

-- marking began, and the first object was marked, claimed and traced
pub small_traced : (u v w x y : SeatView) (was : Bool) (k n s ty : ℕ) (before after : Marking) → IsSmallHeap u k n s → u.lent ≡ 0 → v ≡ begun u (0 ∷ 256 ∷ [])
    → w ≡ marked_at v 0 was → Claims w x 0 ty → ListsMarks x before y after → y.hand ≡ None → holds v.may 0 ≡ true → holds v.may 256 ≡ true
    → IsSmallHeapTraced y k n s
small_traced u v w x y was k n s ty before after small lent began marked claims lists hand holder other =
    let may : y.may ≡ v.may =
    ap (λ (z : SeatView). z.may) lists.view ∙ ap (λ (z : SeatView). z.may) claims.marks ∙ ap (λ (z : SeatView). z.may) marked in
    record {
      known = ap (λ (z : SeatView). z.types) lists.view ∙ ap (λ (z : SeatView). z.types) claims.marks ∙ ap (λ (z : SeatView). z.types) marked
          ∙ ap (λ (z : SeatView). z.types) began ∙ small.known;
      on = ap (λ (z : SeatView). z.on) lists.view ∙ ap (λ (z : SeatView). z.on) claims.marks ∙ ap (λ (z : SeatView). z.on) marked
          ∙ ap (λ (z : SeatView). z.on) began;
      alone = record {
        no_hand = hand;
        no_pending = lists.no_pending claims.no_pending;
        none_lent = ap (λ (z : SeatView). z.lent) lists.view ∙ ap (λ (z : SeatView). z.lent) claims.marks ∙ ap (λ (z : SeatView). z.lent) marked
            ∙ ap (λ (z : SeatView). z.lent) began ∙ lent;
      };
      bodies = ap (λ (z : SeatView). z.bodies) lists.view ∙ ap (λ (z : SeatView). z.bodies) claims.marks ∙ ap (λ (z : SeatView). z.bodies) marked
          ∙ ap (λ (z : SeatView). z.bodies) began ∙ small.bodies;
      holder = subst (λ l. holds l 0 ≡ true) (sym may) holder;
      other = subst (λ l. holds l 256 ≡ true) (sym may) other;
    }

-- what is noted in one group alone
pub noted_alone : (s : NotesState) (note : Note) → IsNotedIn (s ∷ []) note → Contains s.notes note
noted_alone s note noted =
    let first : noted.0 ≡ 0 = omega (arith, noted.1) in
    subst (λ i. Contains (group_at (s ∷ []) i).notes note) first noted.2

-- ---- a pair that was noted is overwritten

pub null_written : (u v w : SeatView) → IsSmallHeapTraced u 257 1 0 → v ≡ stored u 3 0 → w ≡ stored v 2 0 → w.bodies ≡ two_bodies 0 0 0
null_written u v w traced value key =
    ap (λ (z : SeatView). z.bodies) key
    ∙ ap (λ (bs : List Body). map (with_word 2 0) bs)
    (ap (λ (z : SeatView). z.bodies) value ∙ ap (λ (bs : List Body). map (with_word 3 0) bs) traced.bodies)

pub other_written : (u v w : SeatView) (was : Bool) → IsSmallHeapTraced u 257 1 0 → v ≡ stored u 3 257 → w ≡ marked_at v 256 was → w.bodies ≡ two_bodies 257 257 0
other_written u v w was traced value marked =
    ap (λ (z : SeatView). z.bodies) marked ∙ ap (λ (z : SeatView). z.bodies) value ∙ ap (λ (bs : List Body). map (with_word 3 257) bs) traced.bodies

-- a push lists its place at most
pub pushed_place : (m n : Marking) (a p : ℕ) → PushesOrTells m n a → Contains n.list.items p → Contains m.list.items p ⊎ (a ≡ p)
pushed_place m n a p pushed there = elim pushed [
  | inl done ↦ was_there m.list.items n.list.items a done.0.items p there
  | inr refused ↦ inl (subst (λ items. Contains items p) (ap (λ (x : Marking). x.list.items) refused) there)
]
