-- What a steal makes of a share: it has the same lists, and has brought what it moved.
use Rattle.std.proofs.Common.{◌≡◌, ◌<◌, ℕ, true, false, [], ◌∷◌, ◌++◌, length, map, set, get_or, sym, ap, ap₂, ◌∙◌}
use Rattle.std.proofs.lemmas.List.{map-set, get_or-map}
use Rattle.std.proofs.Math.Seq.{map-set_same}
use Rattle.mark_worklist.specs.Hands.{with_brought}
use Rattle.mark_worklist.specs.Ends.{OtherState, Moved}
use Rattle.mark_worklist.specs.Shares.{ShareState, IsSameShare, MovedFrom, Stole}
use Rattle.mark_worklist.proofs.Items.{even-as, even-moved}
use Rattle.mark_worklist.proofs.Looks.{Looked, other-lists, other-moved, one-taken}

-- items of one end's list were moved
pub moved-from : (old new : ShareState) (i most : ℕ) (x e : OtherState) → i < length old.others → x ≡ get_or old.others i x
    → new ≡ record old { own = new.own; others = set old.others i e } → Moved most x old.own e new.own → MovedFrom old i new
moved-from old new i most x e within here is m =
    let others : new.others ≡ set old.others i e = ap (λ s. s.others) is in
    let before : get_or (map (λ y. y.moved) old.others) i [] ≡ x.moved = get_or-map (λ y. y.moved) old.others i x [] within ∙ ap (λ y. y.moved) (sym here) in
    record {
      items = m.items;
      lists = ap (map (λ y. y.list)) others ∙ map-set_same (λ y. y.list) old.others i e x (m.list ∙ ap (λ y. y.list) here);
      taken = ap (map (λ y. y.taken)) others ∙ map-set_same (λ y. y.taken) old.others i e x (m.taken ∙ ap (λ y. y.taken) here);
      moved = ap (map (λ y. y.moved)) others ∙ map-set (λ y. y.moved) old.others i e
          ∙ ap (set (map (λ y. y.moved) old.others) i) (m.moved ∙ ap (λ l. l ++ m.items) (sym before));
      rest = is ∙ ap₂ (λ o l. record old { own = o; others = l }) m.brought (sym others);
    }

-- ends were looked at, one of them gave an item, and some were moved from there
pub stolen : (old looked gave moved new : ShareState) (i a : ℕ) (x e : OtherState) → looked ≡ record old { others = looked.others } → Looked old.others looked.others i
    → i < length old.others → get_or looked.others i x ≡ x → e.list ≡ x.list → e.moved ≡ x.moved → e.taken ≡ x.taken ++ a ∷ []
    → gave ≡ record looked { others = set looked.others i e } → MovedFrom gave i moved → new ≡ record moved { pop_found_none = false; steal_found_none = false } → Stole old a new
stolen old looked gave moved new i a x e looked-is so within here list still taken gave-is m new-is =
    let ends : gave.others ≡ set looked.others i e = ap (λ s. s.others) gave-is in
    let others : new.others ≡ moved.others = ap (λ s. s.others) new-is in
    let unmoved : map (λ y. y.moved) gave.others ≡ map (λ y. y.moved) old.others = ap (map (λ y. y.moved)) ends ∙ other-moved old.others looked.others i x e so within here still in
    let gave-old = gave-is ∙ ap (λ (s : ShareState). record s { others = set looked.others i e }) looked-is in
    let moved-old = m.rest ∙ ap (λ (s : ShareState). record s { own = record s.own { hand = with_brought s.own.hand m.items }; others = moved.others }) gave-old in
    let new-old = new-is ∙ ap (λ (s : ShareState). record s { pop_found_none = false; steal_found_none = false }) moved-old in
    record {
      place = i;
      items = m.items;
      within = within;
      lists = ap (map (λ y. y.list)) others ∙ m.lists ∙ ap (map (λ y. y.list)) ends ∙ other-lists old.others looked.others i x e so within here list;
      taken = ap (map (λ y. y.taken)) others ∙ m.taken ∙ ap (map (λ y. y.taken)) ends ∙ one-taken old.others looked.others i x e so within here a taken;
      moved = ap (map (λ y. y.moved)) others ∙ m.moved ∙ ap (λ l. set l i (get_or l i [] ++ m.items)) unmoved;
      rest = new-old
          ∙ ap (λ l. record old { own = record old.own { hand = with_brought old.own.hand m.items }; others = l; pop_found_none = false; steal_found_none = false }) (sym others);
    }

-- nothing was found
pub looked-same : (old new : ShareState) → new ≡ record old { others = new.others; steal_found_none = true } → map (λ e. e.list) new.others ≡ map (λ e. e.list) old.others
    → map (λ e. e.moved) new.others ≡ map (λ e. e.moved) old.others → IsSameShare old new
looked-same old new is lists moved = record {
  number = ap (λ s. s.number) is;
  own = ap (λ s. s.own.list) is;
  parts = ap (λ s. s.own.hand.parts) is;
  even = even-as old new (ap (λ s. s.own.hand.brought) is) (ap (λ s. s.own.hand.moved) is) moved;
  others = lists;
}

pub stolen-same : (old new : ShareState) (a : ℕ) → Stole old a new → IsSameShare old new
stolen-same old new a stole =
    let is = stole.rest in
    record {
      number = ap (λ s. s.number) is;
      own = ap (λ s. s.own.list) is;
      parts = ap (λ s. s.own.hand.parts) is;
      even = even-moved old new stole.place stole.items stole.within (ap (λ s. s.own.hand.moved) is) (ap (λ s. s.own.hand.brought) is) stole.moved;
      others = stole.lists;
    }
