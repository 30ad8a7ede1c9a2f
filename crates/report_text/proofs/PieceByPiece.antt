-- Writing piece by piece.
use Rattle.std.proofs.Common.{◌≡◌, ℕ, ◌+◌, List, [], ◌++◌, take, drop, Option, Some, None, refl, sym, ap, ◌∙◌, subst}
use Rattle.std.proofs.lemmas.List.{drop-drop, append-nil, append_assoc, take-append-drop}
use Rattle.text_devices.specs.Devices.{Grew, GrewByFront}
use Rattle.report_text.specs.Pieces.{PiecesState, with_held_back, TookMore}

pub Grew-then : (a b c : Option (List ℕ)) (s t : List ℕ) → Grew a b s → Grew b c t → Grew a c (s ++ t)
Grew-then None b c s t x y = subst (λ o. Grew o c t) x y
Grew-then (Some old) b c s t x y = subst (λ o. Grew o c t) x y ∙ ap Some (append_assoc old s t)

pub none_taken : (a : Option (List ℕ)) → TookMore a a
none_taken None = record { text = []; grew = refl }
none_taken (Some old) = record { text = []; grew = ap Some (sym (append-nil old)) }

pub taken_more : (a b c : Option (List ℕ)) (text : List ℕ) → TookMore a b → Grew b c text → TookMore a c
taken_more a b c text m g = record { text = m.text ++ text; grew = Grew-then a b c m.text text m.grew g }

-- what the sink takes from the front of what is held is no longer held
pub same_told : (a b : Option (List ℕ)) (old new : PiecesState) (n : ℕ) → Grew a b (take n old.held) → new.held ≡ drop n old.held
    → with_held_back b new ≡ with_held_back a old
same_told None b old new n g e = ap (λ (o : Option (List ℕ)). with_held_back o new) g
same_told (Some taken) b old new n g e =
    ap (λ (o : Option (List ℕ)). with_held_back o new) g
    ∙ ap Some (
    append_assoc taken (take n old.held) new.held
    ∙ ap (λ (h : List ℕ). taken ++ h) (ap (λ (h : List ℕ). take n old.held ++ h) e ∙ take-append-drop n old.held)
    )

-- the sink took n bytes more of a piece, of which some were sent before
pub sent_more : (a b : Option (List ℕ)) (bytes piece : List ℕ) (sent n room : ℕ) → piece ≡ drop sent bytes → Grew a b (take n piece)
    → with_held_back b (record { held = drop (sent + n) bytes; room = room }) ≡ with_held_back a (record { held = drop sent bytes; room = room })
sent_more a b bytes piece sent n room is g =
    same_told a b (record { held = drop sent bytes; room = room }) (record { held = drop (sent + n) bytes; room = room }) n
    (subst (λ (p : List ℕ). Grew a b (take n p)) is g) (sym (drop-drop n sent bytes))

-- while a text is written: the sink took what stands before the rest
pub record TookFront (old now : Option (List ℕ)) (text rest : List ℕ) : Type 0 where
  pub front : List ℕ
  pub whole : text ≡ front ++ rest
  pub grew : Grew old now front

pub took_none : (old : Option (List ℕ)) (text : List ℕ) → TookFront old old text text
took_none None text = record { front = []; whole = refl; grew = refl }
took_none (Some old) text = record { front = []; whole = refl; grew = ap Some (sym (append-nil old)) }

pub took_next : (old now after : Option (List ℕ)) (text rest next : List ℕ) (n : ℕ) → TookFront old now text rest
    → Grew now after (take n rest) → next ≡ drop n rest → TookFront old after text next
took_next old now after text rest next n f g e = record {
  front = f.front ++ take n rest;
  whole =
      f.whole ∙ ap (λ (r : List ℕ). f.front ++ r) (sym (take-append-drop n rest)) ∙ sym (append_assoc f.front (take n rest) (drop n rest))
      ∙ ap (λ (r : List ℕ). (f.front ++ take n rest) ++ r) (sym e);
  grew = Grew-then old now after f.front (take n rest) f.grew g;
}

pub took_all : (old now : Option (List ℕ)) (text rest : List ℕ) → TookFront old now text rest → rest ≡ [] → Grew old now text
took_all old now text rest f e =
    subst (λ (t : List ℕ). Grew old now t)
    (sym (f.whole ∙ ap (λ (r : List ℕ). f.front ++ r) e ∙ append-nil f.front)) f.grew

pub took_front : (old now : Option (List ℕ)) (text rest : List ℕ) → TookFront old now text rest → GrewByFront old now text
took_front old now text rest f = (f.front, rest, f.whole, f.grew)
