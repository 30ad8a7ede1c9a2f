-- What the calls of a seat that traces make of its hand and of its view.
use Rattle.std.proofs.Common.{rules, ◌≡◌, ℕ, ◌+◌, ◌-◌, Bool, true, false, not, ◌&&◌, cond, eqb, List, [], ◌∷◌, ◌++◌, None, Some, refl, sym, ap, ◌∙◌, subst, arith}
use Rattle.std.specs.List.{Contains}
use Rattle.std.specs.Option.{is_none}
use Rattle.std.proofs.lemmas.Bool.{eq-eqb, cond-true, cond-false}
use Rattle.std.proofs.lemmas.List.{append-nil}
use Rattle.std.proofs.lemmas.List.Elements.{Contains-push}
use Rattle.marker_core.specs.declared.states.Hand.{Hand}
use Rattle.marker_core.specs.declared.states.Part.{Part}
use Rattle.marker_core.specs.declared.states.Part.TheVariants.{Read, Key, Value}
use Rattle.marker_core.specs.declared.states.Role.TheVariants.{KeyWord}
use Rattle.marker_core.specs.Hands.{hand_read, hand_looked, hand_moved, wants, wants_key, part_found, role_at_hand, noted_pair, each_hand}
use Rattle.marker_core.specs.Layout.{has_mark, has_traced}
use Rattle.page_words.specs.Roles.{kind_lists}
use Rattle.page_words.specs.Markers.{MarkerSeatView, field_read, header_read}
use Rattle.marker_crew.specs.Hands.{MarkerIsAt, MarkerIsAtTarget}
use Rattle.marker_crew.specs.Stages.{KeepsItems, MarkerOnlyLooks}
use Rattle.marker_crew.proofs.Working.{keeps_more}

-- ---- a word is read

pub read_looks : (v u : MarkerSeatView) (w : ℕ) → u ≡ field_read v w → MarkerOnlyLooks v u
read_looks v u w is = record {
  heap = ap (λ (x : MarkerSeatView). x.heap) is;
  types = ap (λ (x : MarkerSeatView). x.types) is;
  marked = ap (λ (x : MarkerSeatView). x.marked) is;
  traced = ap (λ (x : MarkerSeatView). x.traced) is;
  noted = ap (λ (x : MarkerSeatView). x.noted) is;
  done = λ a there. subst (λ (x : MarkerSeatView). Contains x.done a) (sym is) there;
  missed = λ a there. subst (λ (x : MarkerSeatView). Contains x.missed a) (sym is) there;
}

-- it names a place, which is in hand then
read_named : (v u : MarkerSeatView) (w t : ℕ) (h : Hand) (part : Part) → v.hand ≡ Some h → u ≡ field_read v w → w ≡ t + 1
    → part_found (role_at_hand (kind_lists v.types) h) h.part t ≡ part → u.hand ≡ Some (record h { part = part })
read_named v u w t h part held is names finds =
    let some : eqb w 0 ≡ false = search (rules, names) in
    let place : w - 1 ≡ t = omega (arith, names) in
    ap (λ (x : MarkerSeatView). x.hand) is
    ∙ ap (each_hand (hand_read (kind_lists v.types) w)) held
    ∙ cond-false (eqb w 0) (hand_moved (kind_lists v.types) h) (Some (record h { part = part_found (role_at_hand (kind_lists v.types) h) h.part (w - 1) })) some
    ∙ ap (λ p. Some (record h { part = p })) (ap (part_found (role_at_hand (kind_lists v.types) h) h.part) place ∙ finds)

-- ---- a pair

-- its key was read
pub key_in_hand : (v u : MarkerSeatView) (place offset w key : ℕ) (at : MarkerIsAt v place offset KeyWord Read) → u ≡ field_read v w → w ≡ key + 1
    → u.hand ≡ Some (record { place = place; ty = at.ty; next = offset; part = Key key })
key_in_hand v u place offset w key at is names =
    read_named v u w key (record { place = place; ty = at.ty; next = offset; part = Read }) (Key key) at.is is names
    (ap (λ role. part_found role Read key) at.role_is)

-- the key's header was looked at
module _ (v u : MarkerSeatView) (place offset ty key w : ℕ) (held : v.hand ≡ Some (record { place = place; ty = ty; next = offset; part = Key key }))
    (is : u ≡ header_read v key w) where
  abbrev key_hand : Hand
  key_hand = record { place = place; ty = ty; next = offset; part = Key key }

  is_key : wants (λ h. wants_key h.part key) v.hand ≡ true
  is_key = ap (wants (λ h. wants_key h.part key)) held ∙ eq-eqb key key refl

  key_looked : u.hand ≡ hand_looked (kind_lists v.types) w key_hand
  key_looked =
      ap (λ (x : MarkerSeatView). x.hand) is ∙ cond-true (wants (λ h. wants_key h.part key) v.hand) (each_hand (hand_looked (kind_lists v.types) w) v.hand) v.hand is_key
      ∙ ap (each_hand (hand_looked (kind_lists v.types) w)) held

  key_noted : u.noted ≡ v.noted ++ noted_pair w (Some key_hand)
  key_noted =
      ap (λ (x : MarkerSeatView). x.noted) is
      ∙ cond-true (wants (λ h. wants_key h.part key) v.hand) (v.noted ++ noted_pair w v.hand) v.noted is_key
      ∙ ap (λ hand. v.noted ++ noted_pair w hand) held

  -- with its mark, the value comes next
  pub key_marked : has_mark w ≡ true → u.hand ≡ Some (record { place = place; ty = ty; next = offset; part = Value })
  key_marked mark = key_looked ∙ cond-true (has_mark w) (Some (record key_hand { part = Value })) (hand_moved (kind_lists v.types) key_hand) mark

  pub none_noted : has_mark w ≡ true → u.noted ≡ v.noted
  none_noted mark =
      key_noted ∙ ap (λ xs. v.noted ++ xs) (cond-true (has_mark w) [] ((place, offset) ∷ []) mark) ∙ append-nil v.noted

  -- and without, the pair is noted, and the hand moves on
  pub key_passed : has_mark w ≡ false → u.hand ≡ hand_moved (kind_lists v.types) key_hand
  key_passed none = key_looked ∙ cond-false (has_mark w) (Some (record key_hand { part = Value })) (hand_moved (kind_lists v.types) key_hand) none

  pub pair_noted : has_mark w ≡ false → u.noted ≡ v.noted ++ (place, offset) ∷ []
  pair_noted none = key_noted ∙ ap (λ xs. v.noted ++ xs) (cond-false (has_mark w) [] ((place, offset) ∷ []) none)

-- what a look at a header leaves
done_kept : (b : Bool) (xs : List ℕ) (a : ℕ) → KeepsItems xs (cond b (xs ++ a ∷ []) xs)
done_kept true xs a = keeps_more xs (xs ++ a ∷ []) (a ∷ []) refl
done_kept false xs a = λ x there. there

module _ (v u : MarkerSeatView) (a w : ℕ) (is : u ≡ header_read v a w) where
  pub header_done : KeepsItems v.done u.done
  header_done x there = subst (λ (s : MarkerSeatView). Contains s.done x) (sym is) (done_kept (has_traced w) v.done a x there)

  pub header_missed : KeepsItems v.missed u.missed
  header_missed x there =
      subst (λ (s : MarkerSeatView). Contains s.missed x) (sym is) (done_kept (is_none v.hand && not (has_mark w) && not (has_traced w)) v.missed a x there)

  pub header_looks : u.noted ≡ v.noted → MarkerOnlyLooks v u
  header_looks noted = record {
    heap = ap (λ (x : MarkerSeatView). x.heap) is;
    types = ap (λ (x : MarkerSeatView). x.types) is;
    marked = ap (λ (x : MarkerSeatView). x.marked) is;
    traced = ap (λ (x : MarkerSeatView). x.traced) is;
    noted = noted;
    done = header_done;
    missed = header_missed;
  }

-- the value of the pair in hand comes next
pub value_target : (v u : MarkerSeatView) (place offset : ℕ) (at : MarkerIsAt v place offset KeyWord Read) → u.types ≡ v.types
    → u.hand ≡ Some (record { place = place; ty = at.ty; next = offset; part = Value }) → MarkerIsAtTarget u (place + offset + 1)
value_target v u place offset at types held = record {
  hand = record { place = place; ty = at.ty; next = offset; part = Value };
  is = held;
  wants = eq-eqb (place + offset + 1) (place + offset + 1) refl;
  target = λ t. ap (λ role. part_found role Value t)
      (ap (λ ts. role_at_hand (kind_lists ts) (record { place = place; ty = at.ty; next = offset; part = Value })) types ∙ at.role_is);
}

-- ---- a look at a header with nothing in hand

module _ (v u : MarkerSeatView) (a w : ℕ) (empty : v.hand ≡ None) (is : u ≡ header_read v a w) where
  no_key : wants (λ h. wants_key h.part a) v.hand ≡ false
  no_key = ap (wants (λ h. wants_key h.part a)) empty

  pub rest_noted : u.noted ≡ v.noted
  rest_noted =
      ap (λ (x : MarkerSeatView). x.noted) is ∙ cond-false (wants (λ h. wants_key h.part a) v.hand) (v.noted ++ noted_pair w v.hand) v.noted no_key

  pub rest_hand : u.hand ≡ None
  rest_hand =
      ap (λ (x : MarkerSeatView). x.hand) is
      ∙ cond-false (wants (λ h. wants_key h.part a) v.hand) (each_hand (hand_looked (kind_lists v.types) w) v.hand) v.hand no_key ∙ empty

  -- with its traced bit, the object is done
  pub traced_is_done : has_traced w ≡ true → Contains u.done a
  traced_is_done traced =
      subst (λ (s : MarkerSeatView). Contains s.done a) (sym is)
      (subst (λ xs. Contains xs a) (sym (cond-true (has_traced w) (v.done ++ a ∷ []) v.done traced)) (Contains-push v.done a))

  -- with neither bit, it is missed
  pub neither_is_missed : has_mark w ≡ false → has_traced w ≡ false → Contains u.missed a
  neither_is_missed unmarked untraced =
      let both : is_none v.hand && not (has_mark w) && not (has_traced w) ≡ true =
      ap (λ h. is_none h && not (has_mark w) && not (has_traced w)) empty
      ∙ ap (λ b. not b && not (has_traced w)) unmarked ∙ ap not untraced in
      subst (λ (s : MarkerSeatView). Contains s.missed a) (sym is)
      (subst (λ xs. Contains xs a) (sym (cond-true (is_none v.hand && not (has_mark w) && not (has_traced w)) (v.missed ++ a ∷ []) v.missed both))
      (Contains-push v.missed a))
