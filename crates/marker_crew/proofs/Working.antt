-- The work of a drain, step after step.
use Rattle.std.proofs.Common.{rules, ◌≡◌, ℕ, ◌+◌, ◌≤◌, Bool, true, false, List, [], ◌∷◌, ◌++◌, length, refl, sym, ap, ◌∙◌, subst, inl, inr, arith}
use mathlib.Core.Logic.{◌⊎◌}
use Rattle.std.specs.List.{Contains}
use Rattle.std.proofs.lemmas.Bool.{true≢false, cases_Bool}
use Rattle.std.proofs.lemmas.List.{append-nil, length-append}
use Rattle.gc_graph.specs.Members.{Contains-cons_cases}
use Rattle.std.proofs.lemmas.List.Elements.{Contains-append_left, Contains-append_cases, Contains-push, Contains-push_cases}
use Rattle.pair_notes.specs.declared.notes.Note.{Note}
use Rattle.mark_worklist.specs.Refusals.{Refusals, TellsRefused}
use Rattle.mark_worklist.specs.Told.{told_same, told_once, told_then}
use Rattle.pair_notes.specs.Notes.{NotesState, note_of, noted, overflowed, refusals_in}
use Rattle.page_words.specs.Markers.{MarkerSeatView}
use Rattle.mark_worklist.specs.Kept.{same-share, share-then}
use Rattle.mark_worklist.specs.Shares.{ShareState, IsSameShare, put_of, taken_by_share, last_count, more_counted}
use Rattle.marker_crew.specs.declared.draining.Drained.{Drained}
use Rattle.marker_crew.specs.Stages.{DrainStage, drain_stage, Lists, Notes, KeepsItems, IsLater, HasCauseToNote, IsNoteOf, HasRisen, MarkerWorks, MarkerOnlyLooks}
use Rattle.marker_crew.proofs.Shares.{same_pushed, same_refused}

keeps_all : {X : Type 0} (old new : List X) → new ≡ old → KeepsItems old new
keeps_all old new same x there = subst (λ xs. Contains xs x) (sym same) there

pub keeps_more : {X : Type 0} (old new more : List X) → new ≡ old ++ more → KeepsItems old new
keeps_more old new more is x there = subst (λ xs. Contains xs x) (sym is) (Contains-append_left old more x there)

-- a note keeps its cause
cause_stays : (s t : DrainStage) (a : ℕ) → IsLater s t → HasCauseToNote s.seat a → HasCauseToNote t.seat a
cause_stays s t a later why = elim why [
  | inl missed ↦ inl (later.missed a missed)
  | inr far ↦ inr (omega (arith, far, ap (λ h. h.count) later.heap))
]

note_stays : (s t : DrainStage) (note : Note) → IsLater s t → IsNoteOf s.seat s.share note → IsNoteOf t.seat t.share note
note_stays s t note later is = elim is [
  | inl pair ↦ inl (later.noted (note.holder, note.word) pair.0, later.traced note.holder pair.1)
  | inr place ↦ inr (place.0, (later.taken note.holder place.1.0, cause_stays s t note.holder later place.1.1))
]

-- ---- one work after another

later_then : (s t u : DrainStage) → IsLater s t → IsLater t u → IsLater s u
later_then s t u x y = record {
  heap = y.heap ∙ x.heap;
  types = y.types ∙ x.types;
  lists = share-then s.share t.share u.share x.lists y.lists;
  marked = λ a h. y.marked a (x.marked a h);
  traced = λ a h. y.traced a (x.traced a h);
  noted = λ a h. y.noted a (x.noted a h);
  done = λ a h. y.done a (x.done a h);
  missed = λ a h. y.missed a (x.missed a h);
  put = λ a h. y.put a (x.put a h);
  taken = λ a h. y.taken a (x.taken a h);
  notes = λ a h. y.notes a (x.notes a h);
  overflow = λ fine. x.overflow (y.overflow fine);
}

risen_then : (a b c : ℕ) → a ≤ b → b ≤ c → HasRisen a b ⊎ HasRisen b c → HasRisen a c
risen_then a b c low high rose = elim rose [
  | inl first ↦ elim first [ inl more ↦ inl (omega (arith, more, high)) | inr last ↦ inr (omega (arith, last, high)) ]
  | inr second ↦ elim second [ inl more ↦ inl (omega (arith, more, low)) | inr last ↦ inr last ]
]

-- what isn't told at last was never told
pub untold : (a b : Refusals) → TellsRefused a b → b.told ≡ false → a.told ≡ false
untold a b tells fine = elim (cases_Bool a.told) [ inl told ↦ absurd (true≢false (sym (tells.kept told) ∙ fine)) | inr not_so ↦ not_so ]

pub Works-then : (s t u : DrainStage) → MarkerWorks s t → MarkerWorks t u → MarkerWorks s u
Works-then s t u x y = record {
  later = later_then s t u x.later y.later;
  counted = omega (arith, x.counted, y.counted);
  listed = λ fine a there. elim (y.listed fine a there) [
    | inl before ↦ elim (x.listed (y.later.overflow fine) a before) [ inl first ↦ inl first | inr put ↦ inr (y.later.put a put) ]
    | inr put ↦ inr put
  ];
  put = λ a there. elim (y.put a there) [
    | inl before ↦ elim (x.put a before) [ inl first ↦ inl first | inr marked ↦ inr (y.later.marked a marked) ]
    | inr marked ↦ inr marked
  ];
  noted = λ fine p offset there. elim (y.noted fine p offset there) [
    | inl before ↦ elim (x.noted (untold (refusals_in t.notes) (refusals_in u.notes) y.notes_told fine) p offset before) [ inl first ↦ inl first | inr note ↦ inr (y.later.notes (note_of p offset) note) ]
    | inr note ↦ inr note
  ];
  notes = λ note there. elim (y.notes note there) [
    | inl before ↦ elim (x.notes note before) [ inl first ↦ inl first | inr is ↦ inr (note_stays t u note y.later is) ]
    | inr is ↦ inr is
  ];
  refused_pushes = omega (arith, x.refused_pushes, y.refused_pushes);
  notes_told = told_then (refusals_in s.notes) (refusals_in t.notes) (refusals_in u.notes) x.notes_told y.notes_told;
  cause = λ told. elim (y.cause told) [
    | inl before ↦ elim (x.cause before) [
      | inl first ↦ inl first
      | inr rose ↦ inr (elim rose [
        | inl pushes ↦ inl (risen_then s.share.refused t.share.refused u.share.refused x.refused_pushes y.refused_pushes (inl pushes))
        | inr notes ↦ inr (y.notes_told.kept notes)
      ])
    ]
    | inr rose ↦ inr (elim rose [
      | inl pushes ↦ inl (risen_then s.share.refused t.share.refused u.share.refused x.refused_pushes y.refused_pushes (inr pushes))
      | inr notes ↦ inr notes
    ])
  ];
}

-- ---- steps that mark, trace and note nothing

pub looks_then : (v u w : MarkerSeatView) → MarkerOnlyLooks v u → MarkerOnlyLooks u w → MarkerOnlyLooks v w
looks_then v u w x y = record {
  heap = y.heap ∙ x.heap;
  types = y.types ∙ x.types;
  marked = y.marked ∙ x.marked;
  traced = y.traced ∙ x.traced;
  noted = y.noted ∙ x.noted;
  done = λ a there. y.done a (x.done a there);
  missed = λ a there. y.missed a (x.missed a there);
}

pub looks_work : (v w : MarkerSeatView) (h : ShareState) (n : NotesState) (d : Drained) → MarkerOnlyLooks v w → MarkerWorks (drain_stage v h n d) (drain_stage w h n d)
looks_work v w h n d x = record {
  later = record {
    heap = x.heap;
    types = x.types;
    lists = same-share h;
    marked = keeps_all v.marked w.marked x.marked;
    traced = keeps_all v.traced w.traced x.traced;
    noted = keeps_all v.noted w.noted x.noted;
    done = x.done;
    missed = x.missed;
    put = λ a there. there;
    taken = λ a there. there;
    notes = λ a there. there;
    overflow = λ fine. fine;
  };
  counted = omega (arith, ap length x.traced);
  listed = λ fine a there. inl (subst (λ xs. Contains xs a) x.marked there);
  put = λ a there. inl there;
  noted = λ fine p offset there. inl (subst (λ xs. Contains xs (p, offset)) x.noted there);
  notes = λ note there. inl there;
  refused_pushes = omega arith;
  notes_told = told_same (refusals_in n);
  cause = λ told. inl told;
}

-- ---- a mark, which is listed

module _ (v w : MarkerSeatView) (h k : ShareState) (n : NotesState) (d e : Drained) (a : ℕ) (heap : w.heap ≡ v.heap) (types : w.types ≡ v.types)
    (marked : w.marked ≡ v.marked ++ a ∷ []) (traced : w.traced ≡ v.traced) (noted_same : w.noted ≡ v.noted) (done : w.done ≡ v.done) (missed : w.missed ≡ v.missed)
    (fits : h.refused ≤ last_count) where
  marks_put : IsSameShare h k → put_of k ≡ put_of h ++ a ∷ [] → taken_by_share k ≡ taken_by_share h → k.refused ≡ h.refused → e ≡ d → MarkerWorks (drain_stage v h n d) (drain_stage w k n e)
  marks_put lists put took refused same = record {
    later = record {
      heap = heap;
      types = types;
      lists = lists;
      marked = keeps_more v.marked w.marked (a ∷ []) marked;
      traced = keeps_all v.traced w.traced traced;
      noted = keeps_all v.noted w.noted noted_same;
      done = keeps_all v.done w.done done;
      missed = keeps_all v.missed w.missed missed;
      put = keeps_more (put_of h) (put_of k) (a ∷ []) put;
      taken = keeps_all (taken_by_share h) (taken_by_share k) took;
      notes = λ x there. there;
      overflow = λ fine. sym (ap (λ (x : Drained). x.overflow) same) ∙ fine;
    };
    counted = omega (arith, ap length traced, ap (λ (x : Drained). x.traced) same);
    listed = λ fine x there. elim (Contains-push_cases v.marked a x (subst (λ xs. Contains xs x) marked there)) [
      | inl before ↦ inl before
      | inr is ↦ inr (subst (λ xs. Contains xs x) (sym put) (subst (Contains (put_of h ++ a ∷ [])) is (Contains-push (put_of h) a)))
    ];
    put = λ x there. elim (Contains-push_cases (put_of h) a x (subst (λ xs. Contains xs x) put there)) [
      | inl before ↦ inl before
      | inr is ↦ inr (subst (λ xs. Contains xs x) (sym marked) (subst (Contains (v.marked ++ a ∷ [])) is (Contains-push v.marked a)))
    ];
    noted = λ fine p offset there. inl (subst (λ xs. Contains xs (p, offset)) noted_same there);
    notes = λ note there. inl there;
    refused_pushes = omega (arith, refused);
    notes_told = told_same (refusals_in n);
    cause = λ told. inl (sym (ap (λ (x : Drained). x.overflow) same) ∙ told);
  }

  marks_refused : IsSameShare h k → put_of k ≡ put_of h → taken_by_share k ≡ taken_by_share h → k.refused ≡ more_counted h.refused 1 → e ≡ record d { overflow = true } → MarkerWorks (drain_stage v h n d) (drain_stage w k n e)
  marks_refused lists put took refused told = record {
    later = record {
      heap = heap;
      types = types;
      lists = lists;
      marked = keeps_more v.marked w.marked (a ∷ []) marked;
      traced = keeps_all v.traced w.traced traced;
      noted = keeps_all v.noted w.noted noted_same;
      done = keeps_all v.done w.done done;
      missed = keeps_all v.missed w.missed missed;
      put = keeps_all (put_of h) (put_of k) put;
      taken = keeps_all (taken_by_share h) (taken_by_share k) took;
      notes = λ x there. there;
      overflow = λ fine. absurd (true≢false (sym (ap (λ (x : Drained). x.overflow) told) ∙ fine));
    };
    counted = omega (arith, ap length traced, ap (λ (x : Drained). x.traced) told);
    listed = λ fine. absurd (true≢false (sym (ap (λ (x : Drained). x.overflow) told) ∙ fine));
    put = λ x there. inl (subst (λ xs. Contains xs x) put there);
    noted = λ fine p offset there. inl (subst (λ xs. Contains xs (p, offset)) noted_same there);
    notes = λ note there. inl there;
    refused_pushes = search (rules, refused, fits);
    notes_told = told_same (refusals_in n);
    cause = λ is. inr (inl (search (rules, refused, fits)));
  }

  pub marks_work : Lists h d a k e → MarkerWorks (drain_stage v h n d) (drain_stage w k n e)
  marks_work listed = elim listed [
    | inl put ↦ marks_put (same_pushed h k a put.0) (ap put_of put.0) (ap taken_by_share put.0) (ap (λ (x : ShareState). x.refused) put.0) put.1
    | inr refused ↦ marks_refused (same_refused h k refused.0) (ap put_of refused.0) (ap taken_by_share refused.0) (ap (λ (x : ShareState). x.refused) refused.0) refused.1
  ]

-- ---- a note

module _ (v w : MarkerSeatView) (h : ShareState) (n o : NotesState) (d e : Drained) (holder word : ℕ) (heap : w.heap ≡ v.heap) (types : w.types ≡ v.types)
    (marked : w.marked ≡ v.marked) (traced : w.traced ≡ v.traced) (new_pairs : List (ℕ × ℕ)) (pairs : w.noted ≡ v.noted ++ new_pairs)
    (only : (p offset : ℕ) → Contains new_pairs (p, offset) → (p ≡ holder) × (offset ≡ word)) (done : KeepsItems v.done w.done) (missed : KeepsItems v.missed w.missed)
    (is_note : IsNoteOf w h (note_of holder word)) (fits : n.refused ≤ last_count) where
  later_note : KeepsItems n.notes o.notes → (e.overflow ≡ false → d.overflow ≡ false) → IsLater (drain_stage v h n d) (drain_stage w h o e)
  later_note kept overflow = record {
    heap = heap;
    types = types;
    lists = same-share h;
    marked = keeps_all v.marked w.marked marked;
    traced = keeps_all v.traced w.traced traced;
    noted = keeps_more v.noted w.noted new_pairs pairs;
    done = done;
    missed = missed;
    put = λ a there. there;
    taken = λ a there. there;
    notes = kept;
    overflow = overflow;
  }

  note_made : o ≡ noted n holder word → e ≡ d → MarkerWorks (drain_stage v h n d) (drain_stage w h o e)
  note_made made same =
      let notes : o.notes ≡ n.notes ++ note_of holder word ∷ [] = ap (λ (x : NotesState). x.notes) made in
      record {
        later = later_note (keeps_more n.notes o.notes (note_of holder word ∷ []) notes) (λ fine. sym (ap (λ (x : Drained). x.overflow) same) ∙ fine);
        counted = omega (arith, ap length traced, ap (λ (x : Drained). x.traced) same);
        listed = λ fine a there. inl (subst (λ xs. Contains xs a) marked there);
        put = λ a there. inl there;
        noted = λ fine p offset there. elim (Contains-append_cases v.noted new_pairs (p, offset) (subst (λ xs. Contains xs (p, offset)) pairs there)) [
          | inl before ↦ inl before
          | inr new ↦ inr (
              subst (λ (x : Note). Contains o.notes x) (sym (ap (λ k. note_of k offset) (only p offset new).0 ∙ ap (note_of holder) (only p offset new).1))
              (subst (λ xs. Contains xs (note_of holder word)) (sym notes) (Contains-push n.notes (note_of holder word)))
              )
        ];
        notes = λ note there. elim (Contains-push_cases n.notes (note_of holder word) note (subst (λ xs. Contains xs note) notes there)) [
          | inl before ↦ inl before
          | inr is ↦ inr (subst (IsNoteOf w h) is is_note)
        ];
        refused_pushes = omega arith;
        notes_told = subst (λ (x : NotesState). TellsRefused (refusals_in n) (refusals_in x)) (sym made) (told_same (refusals_in n));
        cause = λ told. inl (sym (ap (λ (x : Drained). x.overflow) same) ∙ told);
      }

  note_refused : o ≡ overflowed n → e ≡ record d { overflow = true } → MarkerWorks (drain_stage v h n d) (drain_stage w h o e)
  note_refused made told = record {
    later = later_note (keeps_all n.notes o.notes (ap (λ (x : NotesState). x.notes) made))
        (λ fine. absurd (true≢false (sym (ap (λ (x : Drained). x.overflow) told) ∙ fine)));
    counted = omega (arith, ap length traced, ap (λ (x : Drained). x.traced) told);
    listed = λ fine. absurd (true≢false (sym (ap (λ (x : Drained). x.overflow) told) ∙ fine));
    put = λ a there. inl there;
    noted = λ fine. absurd (true≢false (sym (ap (λ (x : NotesState). x.overflow) made) ∙ fine));
    notes = λ note there. inl (subst (λ xs. Contains xs note) (ap (λ (x : NotesState). x.notes) made) there);
    refused_pushes = omega arith;
    notes_told = subst (λ (x : NotesState). TellsRefused (refusals_in n) (refusals_in x)) (sym made) (told_once n.overflow n.refused fits);
    cause = λ is. inr (inr (ap (λ (x : NotesState). x.overflow) made));
  }

  pub note_works : Notes n d holder word o e → MarkerWorks (drain_stage v h n d) (drain_stage w h o e)
  note_works made = elim made [ inl done ↦ note_made done.0 done.1 | inr refused ↦ note_refused refused.0 refused.1 ]

-- ---- a claim, which is counted

pub claim_works : (v w : MarkerSeatView) (h : ShareState) (n : NotesState) (d e : Drained) (a : ℕ) → w.heap ≡ v.heap → w.types ≡ v.types
    → w.marked ≡ v.marked → w.traced ≡ v.traced ++ a ∷ [] → w.noted ≡ v.noted → w.done ≡ v.done → w.missed ≡ v.missed
    → e ≡ record d { traced = d.traced + 1 } → MarkerWorks (drain_stage v h n d) (drain_stage w h n e)
claim_works v w h n d e a heap types marked traced noted_same done missed counted = record {
  later = record {
    heap = heap;
    types = types;
    lists = same-share h;
    marked = keeps_all v.marked w.marked marked;
    traced = keeps_more v.traced w.traced (a ∷ []) traced;
    noted = keeps_all v.noted w.noted noted_same;
    done = keeps_all v.done w.done done;
    missed = keeps_all v.missed w.missed missed;
    put = λ x there. there;
    taken = λ x there. there;
    notes = λ x there. there;
    overflow = λ fine. sym (ap (λ (x : Drained). x.overflow) counted) ∙ fine;
  };
  counted = omega (arith, ap length traced, length-append v.traced (a ∷ []), ap (λ (x : Drained). x.traced) counted);
  listed = λ fine x there. inl (subst (λ xs. Contains xs x) marked there);
  put = λ x there. inl there;
  noted = λ fine p offset there. inl (subst (λ xs. Contains xs (p, offset)) noted_same there);
  notes = λ note there. inl there;
  refused_pushes = omega arith;
  notes_told = told_same (refusals_in n);
  cause = λ told. inl (sym (ap (λ (x : Drained). x.overflow) counted) ∙ told);
}

-- ---- whether more is left to do is told last

pub works_with_more : (s : DrainStage) (v : MarkerSeatView) (h : ShareState) (n : NotesState) (d : Drained) (more : Bool) → MarkerWorks s (drain_stage v h n d)
    → MarkerWorks s (drain_stage v h n (record d { more = more }))
works_with_more s v h n d more x = record {
  later = record {
    heap = x.later.heap;
    types = x.later.types;
    lists = x.later.lists;
    marked = x.later.marked;
    traced = x.later.traced;
    noted = x.later.noted;
    done = x.later.done;
    missed = x.later.missed;
    put = x.later.put;
    taken = x.later.taken;
    notes = x.later.notes;
    overflow = x.later.overflow;
  };
  counted = x.counted;
  listed = x.listed;
  put = x.put;
  noted = x.noted;
  notes = x.notes;
  refused_pushes = x.refused_pushes;
  notes_told = x.notes_told;
  cause = x.cause;
}

-- an item was taken, and nothing else has changed
pub take_works : (v : MarkerSeatView) (h k : ShareState) (n : NotesState) (d : Drained) → IsSameShare h k → put_of k ≡ put_of h → KeepsItems (taken_by_share h) (taken_by_share k)
    → k.refused ≡ h.refused → MarkerWorks (drain_stage v h n d) (drain_stage v k n d)
take_works v h k n d lists put took refused = record {
  later = record {
    heap = refl;
    types = refl;
    lists = lists;
    marked = λ a there. there;
    traced = λ a there. there;
    noted = λ a there. there;
    done = λ a there. there;
    missed = λ a there. there;
    put = keeps_all (put_of h) (put_of k) put;
    taken = took;
    notes = λ a there. there;
    overflow = λ fine. fine;
  };
  counted = omega arith;
  listed = λ fine a there. inl there;
  put = λ a there. inl (subst (λ xs. Contains xs a) put there);
  noted = λ fine p offset there. inl there;
  notes = λ note there. inl there;
  refused_pushes = omega (arith, refused);
  notes_told = told_same (refusals_in n);
  cause = λ told. inl told;
}

-- what a list of one pair, and of none, holds
pub one_pair : (holder word p offset : ℕ) → Contains {X = ℕ × ℕ} ((holder, word) ∷ []) (p, offset) → (p ≡ holder) × (offset ≡ word)
one_pair holder word p offset there = elim (Contains-cons_cases (holder, word) [] (p, offset) there) [
  | inl is ↦ (sym (ap (λ (x : ℕ × ℕ). x.0) is), sym (ap (λ (x : ℕ × ℕ). x.1) is))
  | inr later ↦ absurd (omega (arith, later.1))
]

pub no_pair : (holder word p offset : ℕ) → Contains {X = ℕ × ℕ} [] (p, offset) → (p ≡ holder) × (offset ≡ word)
no_pair holder word p offset there = absurd (omega (arith, there.1))

-- the place of an item was noted, with nothing else noted
pub item_noted : (v w : MarkerSeatView) (h : ShareState) (n o : NotesState) (d e : Drained) (a : ℕ) → MarkerOnlyLooks v w
    → Contains (taken_by_share h) a → HasCauseToNote w a → n.refused ≤ last_count → Notes n d a 0 o e → MarkerWorks (drain_stage v h n d) (drain_stage w h o e)
item_noted v w h n o d e a looks took why fits made =
    note_works v w h n o d e a 0 looks.heap looks.types looks.marked looks.traced [] (looks.noted ∙ sym (append-nil v.noted)) (no_pair a 0) looks.done
    looks.missed (inr (refl, (took, why))) fits made

pub looks_not : (v : MarkerSeatView) → MarkerOnlyLooks v v
looks_not v = record { heap = refl; types = refl; marked = refl; traced = refl; noted = refl; done = λ a there. there; missed = λ a there. there }
