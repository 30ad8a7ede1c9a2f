-- The markers of a crew are joined one after another.
use Rattle.std.proofs.Common.{◌≡◌, ℕ, ◌+◌, ◌-◌, ◌*◌, ◌<◌, ◌≤◌, ◌^◌, ◌||◌, false, List, [], ◌∷◌, ◌++◌, length, map, get_or, refl, sym, ap, ◌∙◌, subst, inl, inr, arith}
use Rattle.std.specs.List.{list_any, remove, sum_by}
use Rattle.std.proofs.Math.Bool.{or-false}
use Rattle.std.proofs.lemmas.Bool.{cases_lt}
use Rattle.std.proofs.lemmas.List.{append-nil, append_assoc, length-append, map-append, get_or-append_right, get_or_append_left}
use Rattle.std.proofs.lemmas.List.Folds.{list_any-append}
use Rattle.std.proofs.lemmas.List.Sums.{sum_by_push}
use Rattle.pair_notes.specs.Notes.{NotesState}
use Rattle.page_words.specs.Markers.{joined_with}
use Rattle.page_words.specs.Seat.{SeatView}
use Rattle.mark_worklist.specs.Shares.{ShareState}
use Rattle.marker_crew.specs.declared.crew.CrewResult.{CrewResult}
use Rattle.marker_crew.specs.Crews.{Marker, Ending, CrewState, HasDrained, joined_with_all}
use Rattle.marker_crew.specs.Joined.{joined_last}

-- the last value of what a marker may count
abbrev pub most_words : ℕ
most_words = 2 ^ 24

-- some of the markers are joined, and these are left
pub record IsPartJoined (old : CrewState) (before : SeatView) (rest : List Marker) (notes : List NotesState) (shares : List ShareState) (after : SeatView) (result : CrewResult) : Type 0 where
  pub begun : List Marker
  pub ends : List Ending
  pub whole : old.running ≡ begun ++ rest
  pub many : length begun ≡ length ends
  pub each : (k : ℕ) (m : Marker) (e : Ending) → k < length ends → HasDrained (get_or old.running k m) (get_or ends k e)
  pub seat : after ≡ joined_with_all before (map (λ (e : Ending). e.seat) ends)
  pub notes_are : notes ≡ old.notes ++ map (λ (e : Ending). e.notes) ends
  pub shares_are : shares ≡ old.shares ++ map (λ (e : Ending). e.share) ends
  pub traced : result.traced ≡ sum_by (λ (e : Ending). e.drained.traced) ends
  pub overflow : result.overflow ≡ list_any (λ (e : Ending). e.drained.overflow) ends
  pub lent : after.lent + length ends ≡ before.lent
  pub few : result.traced ≤ length ends * most_words

pub none_joined : (old : CrewState) (before : SeatView) (result : CrewResult) → result ≡ record { traced = 0; overflow = false }
    → IsPartJoined old before old.running old.notes old.shares before result
none_joined old before result is = record {
  begun = [];
  ends = [];
  whole = refl;
  many = refl;
  each = λ k m e low. absurd (omega (arith, low));
  seat = refl;
  notes_are = sym (append-nil old.notes);
  shares_are = sym (append-nil old.shares);
  traced = ap (λ (r : CrewResult). r.traced) is;
  overflow = ap (λ (r : CrewResult). r.overflow) is;
  lent = omega arith;
  few = omega (arith, ap (λ (r : CrewResult). r.traced) is);
}

first_is : {X : Type 0} (xs : List X) (x : X) → 0 < length xs → x ≡ get_or xs 0 x → xs ≡ x ∷ remove xs 0
first_is [] x some is = absurd (omega (arith, some))
first_is (y ∷ xs) x some is = ap (λ z. z ∷ xs) (sym is)

pub rest_mapped : {X Y : Type 0} (f : X → Y) (xs : List X) → map f (remove xs 0) ≡ remove (map f xs) 0
rest_mapped f [] = refl
rest_mapped f (x ∷ xs) = refl

pub one_joined : (old : CrewState) (before : SeatView) (rest : List Marker) (notes : List NotesState) (shares : List ShareState) (v w : SeatView) (r s : CrewResult)
    (m : Marker) (e : Ending) → IsPartJoined old before rest notes shares v r → 0 < length rest → m ≡ get_or rest 0 m → HasDrained m e
    → 0 < v.lent → w ≡ joined_with v e.seat → e.drained.traced ≤ most_words → s.traced ≡ r.traced + e.drained.traced
    → s.overflow ≡ (r.overflow || e.drained.overflow)
    → IsPartJoined old before (remove rest 0) (notes ++ e.notes ∷ []) (shares ++ e.share ∷ []) w s
one_joined old before rest notes shares v w r s m e x some is drained out joined low traced overflow =
    let more : length (x.ends ++ e ∷ []) ≡ length x.ends + 1 = length-append x.ends (e ∷ []) in
    let split : old.running ≡ x.begun ++ (m ∷ remove rest 0) = x.whole ∙ ap (λ l. x.begun ++ l) (first_is rest m some is) in
    record {
      begun = x.begun ++ m ∷ [];
      ends = x.ends ++ e ∷ [];
      whole = split ∙ sym (append_assoc x.begun (m ∷ []) (remove rest 0));
      many = omega (arith, length-append x.begun (m ∷ []), more, x.many);
      each = λ k n f l. elim (cases_lt k (length x.ends)) [
        | inl before_it ↦ subst (HasDrained (get_or old.running k n)) (sym (get_or_append_left x.ends (e ∷ []) f k before_it)) (x.each k n f before_it)
        | inr past ↦
            (let at : k ≡ length x.ends = omega (arith, l, more, past) in
            let zeroth : k - length x.ends ≡ 0 = omega (arith, at) in
            let this : get_or (x.ends ++ e ∷ []) k f ≡ e =
            get_or-append_right x.ends (e ∷ []) (length x.ends) k f refl (omega (arith, at)) ∙ ap (λ i. get_or (e ∷ []) i f) zeroth in
            let that : get_or old.running k n ≡ m =
            ap (λ l. get_or l k n) split ∙ get_or-append_right x.begun (m ∷ remove rest 0) (length x.ends) k n x.many (omega (arith, at))
            ∙ ap (λ i. get_or (m ∷ remove rest 0) i n) zeroth in
            subst (λ b. HasDrained b (get_or (x.ends ++ e ∷ []) k f)) (sym that) (subst (HasDrained m) (sym this) drained))
      ];
      seat =
          joined ∙ ap (λ u. joined_with u e.seat) x.seat
          ∙ sym (joined_last before (map (λ (f : Ending). f.seat) x.ends) e.seat)
          ∙ ap (joined_with_all before) (sym (map-append (λ (f : Ending). f.seat) x.ends (e ∷ [])));
      notes_are =
          ap (λ l. l ++ e.notes ∷ []) x.notes_are ∙ append_assoc old.notes (map (λ (f : Ending). f.notes) x.ends) (e.notes ∷ [])
          ∙ ap (λ l. old.notes ++ l) (sym (map-append (λ (f : Ending). f.notes) x.ends (e ∷ [])));
      shares_are =
          ap (λ l. l ++ e.share ∷ []) x.shares_are ∙ append_assoc old.shares (map (λ (f : Ending). f.share) x.ends) (e.share ∷ [])
          ∙ ap (λ l. old.shares ++ l) (sym (map-append (λ (f : Ending). f.share) x.ends (e ∷ [])));
      traced = traced ∙ ap (λ n. n + e.drained.traced) x.traced ∙ sym (sum_by_push (λ (f : Ending). f.drained.traced) x.ends e);
      overflow =
          overflow ∙ ap (λ b. b || e.drained.overflow) x.overflow
          ∙ ap (λ b. list_any (λ (f : Ending). f.drained.overflow) x.ends || b) (sym (or-false e.drained.overflow))
          ∙ sym (list_any-append (λ (f : Ending). f.drained.overflow) x.ends (e ∷ []));
      lent = omega (arith, ap (λ (u : SeatView). u.lent) joined, out, x.lent, more);
      few = omega (arith, x.few, low, traced, more);
    }

-- a marker that counts no more items than the heap has words
pub counts_few : (m : Marker) (e : Ending) (count : ℕ) → HasDrained m e → m.seat.count ≡ count → count ≤ most_words → e.drained.traced ≤ most_words
counts_few m e count drained is low = omega (arith, drained.most, is, low)
