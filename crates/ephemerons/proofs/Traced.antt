-- What was done to the words of an object, one after another.
use Rattle.std.proofs.Common.{◌≡◌, ℕ, ◌+◌, true, false, List, [], ◌∷◌, ◌++◌, sym, ap, ◌∙◌, subst, inl, inr, arith}
use mathlib.Core.Logic.{◌⊎◌}
use Rattle.std.specs.List.{Contains}
use Rattle.std.proofs.lemmas.Bool.{true≢false, false_from_ne_true}
use Rattle.std.proofs.lemmas.List.{append-nil, append_assoc}
use Rattle.std.proofs.lemmas.List.Elements.{Contains-append_left, Contains-append_right, Contains-append_cases}
use Rattle.gc_graph.specs.Members.{Contains-head, Contains-cons_cases}
use Rattle.type_table.specs.declared.traced.TracedWord.{TracedWord}
use Rattle.type_table.specs.declared.traced.TracedWord.TheVariants.{StrongAt, PairAt}
use Rattle.marker_core.specs.Bodies.{holds}
use Rattle.marker_core.specs.declared.states.Body.{Body}
use Rattle.page_words.specs.Seat.{SeatView, OnlyLooked}
use Rattle.pair_notes.specs.BodyGraph.{word_at}
use Rattle.pair_notes.specs.Marking.{heap_and_marks, HasTargetMarked}
use Rattle.pair_notes.specs.Notes.{NotesState}
use Rattle.ephemerons.specs.Traces.{FollowPairs, IsWaiting, IsPairKept, IsStrongTarget, IsPairValue, Traces}
use Rattle.ephemerons.proofs.NoteSteps.{follow_none, follow_then}

-- ---- one word

one_word : (word other : TracedWord) → Contains (word ∷ []) other → word ≡ other
one_word word other there = elim (Contains-cons_cases word [] other there) [ inl here ↦ here | inr later ↦ absurd (omega (arith, later.1)) ]

-- what one more mark may be, for a body at the place
abbrev MarksOnly : SeatView → SeatView → ℕ → ℕ → Type 0
MarksOnly u w place offset =
    (b : Body) (q : ℕ) → Contains u.bodies b → b.place ≡ place → holds w.marked q ≡ true → (holds u.marked q ≡ true) ⊎ (word_at b offset ≡ q + 1)

pub strong_traces : (u w : SeatView) (s : NotesState) (place offset : ℕ) → w.noted ≡ u.noted → MarksOnly u w place offset
    → Traces u s w s place (StrongAt offset ∷ [])
strong_traces u w s place offset none only = record {
  pairs = [];
  noted = none ∙ sym (append-nil u.noted);
  notes = follow_none s;
  waiting = λ b pair there at h. absurd (omega (arith, h.1));
  kept = λ b o key there at word named. absurd (let never : StrongAt offset ≡ PairAt o = one_word (StrongAt offset) (PairAt o) word in cc);
  only = λ b q there at marked. elim (only b q there at marked) [
    | inl old ↦ inl old
    | inr is ↦ inr (inl (record { offset = offset; word = Contains-head (StrongAt offset) []; named = is }))
  ];
}

module _ (u w : SeatView) (old new : NotesState) (place offset : ℕ) where
  same_marks : heap_and_marks w ≡ heap_and_marks u → (q : ℕ) → holds w.marked q ≡ true → holds u.marked q ≡ true
  same_marks same q marked = subst (λ l. holds l q ≡ true) (ap (λ (x : SeatView). x.marked) same) marked

  -- the offset of the one pair
  offset_is : (o : ℕ) → Contains (PairAt offset ∷ []) (PairAt o) → offset ≡ o
  offset_is o there = let same : PairAt offset ≡ PairAt o = one_word (PairAt offset) (PairAt o) there in cc

  -- a pair whose key is null
  pub null_traces : heap_and_marks w ≡ heap_and_marks u → w.noted ≡ u.noted
      → ((b : Body) → Contains u.bodies b → b.place ≡ place → word_at b offset ≡ 0) → Traces u old w old place (PairAt offset ∷ [])
  null_traces same none null = record {
    pairs = [];
    noted = none ∙ sym (append-nil u.noted);
    notes = follow_none old;
    waiting = λ b pair there at h. absurd (omega (arith, h.1));
    kept = λ b o key there at word named.
        absurd (let zero : word_at b o ≡ 0 = subst (λ x. word_at b x ≡ 0) (offset_is o word) (null b there at) in omega (arith, zero, named));
    only = λ b q there at marked. inl (same_marks same q marked);
  }

  -- a pair whose key is marked
  pub kept_traces : (key : ℕ) → w.bodies ≡ u.bodies → w.noted ≡ u.noted
      → ((b : Body) → Contains u.bodies b → b.place ≡ place → word_at b offset ≡ key + 1) → holds w.marked key ≡ true
      → HasTargetMarked w place (offset + 1) → MarksOnly u w place (offset + 1) → Traces u old w old place (PairAt offset ∷ [])
  kept_traces key bodies none is marked target only = record {
    pairs = [];
    noted = none ∙ sym (append-nil u.noted);
    notes = follow_none old;
    waiting = λ b pair there at h. absurd (omega (arith, h.1));
    kept = λ b o k there at word named.
        let at_o : word_at b o ≡ key + 1 = subst (λ x. word_at b x ≡ key + 1) (offset_is o word) (is b there at) in
        let one : key ≡ k = omega (arith, at_o, named) in
        inr (record {
          marked = subst (λ x. holds w.marked x ≡ true) one marked;
          value = λ q value. target b q (subst (λ bs. Contains bs b) (sym bodies) there) at (subst (λ x. word_at b (x + 1) ≡ q + 1) (sym (offset_is o word)) value);
        });
    only = λ b q there at now. elim (only b q there at now) [
      | inl before ↦ inl before
      | inr value ↦ inr (inr (record {
        offset = offset;
        word = Contains-head (PairAt offset) [];
        key = key;
        key_named = is b there at;
        named = value;
        unnoted = λ h. omega (arith, h.1);
      }))
    ];
  }

  -- a pair whose key isn't
  pub waiting_traces : (key : ℕ) → heap_and_marks w ≡ heap_and_marks u → w.noted ≡ u.noted ++ (place, offset) ∷ []
      → ((b : Body) → Contains u.bodies b → b.place ≡ place → word_at b offset ≡ key + 1) → holds u.marked key ≡ false
      → FollowPairs old new ((place, offset) ∷ []) → Traces u old w new place (PairAt offset ∷ [])
  waiting_traces key same one is unmarked follow = record {
    pairs = (place, offset) ∷ [];
    noted = one;
    notes = follow;
    waiting = λ b pair there at h. subst (IsWaiting u b (PairAt offset ∷ [])) (the_pair pair h) (record {
      holder = sym at;
      word = Contains-head (PairAt offset) [];
      key = key;
      named = is b there at;
      unmarked = unmarked;
    });
    kept = λ b o k there at word named. inl (subst (λ x. Contains {X = ℕ × ℕ} ((place, offset) ∷ []) (place, x)) (offset_is o word) (Contains-head {X = ℕ × ℕ} (place, offset) []));
    only = λ b q there at marked. inl (same_marks same q marked);
  } where
    the_pair : (pair : ℕ × ℕ) → Contains ((place, offset) ∷ []) pair → (place, offset) ≡ pair
    the_pair pair h = elim (Contains-cons_cases (place, offset) [] pair h) [ inl here ↦ here | inr later ↦ absurd (omega (arith, later.1)) ]

-- ---- words one after another

pub Traces-none : (v : SeatView) (s : NotesState) (place : ℕ) → Traces v s v s place []
Traces-none v s place = record {
  pairs = [];
  noted = sym (append-nil v.noted);
  notes = follow_none s;
  waiting = λ b pair there at h. absurd (omega (arith, h.1));
  kept = λ b offset key there at word named. absurd (omega (arith, word.1));
  only = λ b q there at marked. inl marked;
}

-- u, v and w are the views one after another, and r, s and t the notes; no pair is among both lists of words
module _ (u v w : SeatView) (r s t : NotesState) (place : ℕ) (first later : List TracedWord) (bodies : v.bodies ≡ u.bodies)
    (old_marked : (q : ℕ) → holds u.marked q ≡ true → holds v.marked q ≡ true) (new_marked : (q : ℕ) → holds v.marked q ≡ true → holds w.marked q ≡ true)
    (fine : t.overflow ≡ false → s.overflow ≡ false) (apart : (offset : ℕ) → Contains first (PairAt offset) → Contains later (PairAt offset) → ⊥)
    (x : Traces u r v s place first) (y : Traces v s w t place later) where
  abbrev both : List TracedWord
  both = first ++ later

  abbrev pairs : List (ℕ × ℕ)
  pairs = x.pairs ++ y.pairs

  moved : (b : Body) → Contains u.bodies b → Contains v.bodies b
  moved b there = subst (λ bs. Contains bs b) (sym bodies) there

  waiting : (b : Body) (pair : ℕ × ℕ) → Contains u.bodies b → b.place ≡ place → Contains pairs pair → IsWaiting u b both pair
  waiting b pair there at h = elim (Contains-append_cases x.pairs y.pairs pair h) [
    | inl early ↦ (let is = x.waiting b pair there at early in record {
      holder = is.holder;
      word = Contains-append_left first later (PairAt pair.1) is.word;
      key = is.key;
      named = is.named;
      unmarked = is.unmarked;
    })
    | inr late ↦ (let is = y.waiting b pair (moved b there) at late in record {
      holder = is.holder;
      word = Contains-append_right first later (PairAt pair.1) is.word;
      key = is.key;
      named = is.named;
      unmarked = false_from_ne_true (holds u.marked is.key) (λ early. true≢false (sym (old_marked is.key early) ∙ is.unmarked));
    })
  ]

  kept : (b : Body) (offset key : ℕ) → Contains u.bodies b → b.place ≡ place → Contains both (PairAt offset) → word_at b offset ≡ key + 1
      → Contains pairs (place, offset) ⊎ IsPairKept w b offset key
  kept b offset key there at word named = elim (Contains-append_cases first later (PairAt offset) word) [
    | inl early ↦ elim (x.kept b offset key there at early named) [
      | inl noted ↦ inl (Contains-append_left x.pairs y.pairs (place, offset) noted)
      | inr is ↦ inr (record { marked = new_marked key is.marked; value = λ q value. new_marked q (is.value q value) })
    ]
    | inr late ↦ elim (y.kept b offset key (moved b there) at late named) [
      | inl noted ↦ inl (Contains-append_right x.pairs y.pairs (place, offset) noted)
      | inr is ↦ inr is
    ]
  ]

  early_value : (b : Body) (q : ℕ) → Contains u.bodies b → b.place ≡ place → IsPairValue b first x.pairs q → IsPairValue b both pairs q
  early_value b q there at is = record {
    offset = is.offset;
    word = Contains-append_left first later (PairAt is.offset) is.word;
    key = is.key;
    key_named = is.key_named;
    named = is.named;
    unnoted = λ h. elim (Contains-append_cases x.pairs y.pairs (b.place, is.offset) h) [
      | inl early ↦ is.unnoted early
      | inr late ↦ apart is.offset is.word (y.waiting b (b.place, is.offset) (moved b there) at late).word
    ];
  }

  late_value : (b : Body) (q : ℕ) → Contains u.bodies b → b.place ≡ place → IsPairValue b later y.pairs q → IsPairValue b both pairs q
  late_value b q there at is = record {
    offset = is.offset;
    word = Contains-append_right first later (PairAt is.offset) is.word;
    key = is.key;
    key_named = is.key_named;
    named = is.named;
    unnoted = λ h. elim (Contains-append_cases x.pairs y.pairs (b.place, is.offset) h) [
      | inl early ↦ apart is.offset (x.waiting b (b.place, is.offset) there at early).word is.word
      | inr late ↦ is.unnoted late
    ];
  }

  only : (b : Body) (q : ℕ) → Contains u.bodies b → b.place ≡ place → holds w.marked q ≡ true
      → (holds u.marked q ≡ true) ⊎ (IsStrongTarget b both q ⊎ IsPairValue b both pairs q)
  only b q there at marked = elim (y.only b q (moved b there) at marked) [
    | inl before ↦ elim (x.only b q there at before) [
      | inl old ↦ inl old
      | inr asked ↦ inr (elim asked [
        | inl strong ↦ inl (record {
          offset = strong.offset;
          word = Contains-append_left first later (StrongAt strong.offset) strong.word;
          named = strong.named;
        })
        | inr value ↦ inr (early_value b q there at value)
      ])
    ]
    | inr asked ↦ inr (elim asked [
      | inl strong ↦ inl (record {
        offset = strong.offset;
        word = Contains-append_right first later (StrongAt strong.offset) strong.word;
        named = strong.named;
      })
      | inr value ↦ inr (late_value b q there at value)
    ])
  ]

  pub Traces-then : Traces u r w t place (first ++ later)
  Traces-then = record {
    pairs = pairs;
    noted = y.noted ∙ ap (λ l. l ++ y.pairs) x.noted ∙ append_assoc u.noted x.pairs y.pairs;
    notes = follow_then r s t x.pairs y.pairs fine x.notes y.notes;
    waiting = waiting;
    kept = kept;
    only = only;
  }

-- ---- headers were looked at before

waits_from : (u v : SeatView) → OnlyLooked u v → (b : Body) (words : List TracedWord) (pair : ℕ × ℕ) → IsWaiting v b words pair → IsWaiting u b words pair
waits_from u v same b words pair x = record {
  holder = x.holder;
  word = x.word;
  key = x.key;
  named = x.named;
  unmarked = ap (λ (z : SeatView). holds z.marked x.key) (sym same) ∙ x.unmarked;
}

pub traces_from : (u v : SeatView) → OnlyLooked u v → (old : NotesState) (w : SeatView) (new : NotesState) (place : ℕ) (words : List TracedWord)
    → Traces v old w new place words → Traces u old w new place words
traces_from u v same old w new place words x =
    let body : (b : Body) → Contains u.bodies b → Contains v.bodies b = λ b there. subst (λ bs. Contains bs b) (ap (λ (z : SeatView). z.bodies) (sym same)) there in
    record {
      pairs = x.pairs;
      noted = x.noted ∙ ap (λ (z : SeatView). z.noted ++ x.pairs) same;
      notes = x.notes;
      waiting = λ b pair there at among. waits_from u v same b words pair (x.waiting b pair (body b there) at among);
      kept = λ b offset key there at among named. x.kept b offset key (body b there) at among named;
      only = λ b q there at marked. elim (x.only b q (body b there) at marked) [
        | inl before ↦ inl (ap (λ (z : SeatView). holds z.marked q) (sym same) ∙ before)
        | inr new_one ↦ inr new_one
      ];
    }
