-- Which headers were looked at, in one go after another. Lemmas that the crates above cite too, since a crate's proofs/ can't be
-- cited from another.
use Rattle.std.proofs.Common.{◌≡◌, ℕ, true, List, [], ◌∷◌, ◌++◌, sym, ap, ◌∙◌, subst, inl, inr, arith}
use Rattle.std.specs.List.{Contains}
use Rattle.std.proofs.lemmas.List.{append-nil, append_assoc}
use Rattle.std.proofs.lemmas.List.Elements.{Contains-append_cases}
use Rattle.gc_graph.specs.Members.{Contains-cons_cases}
use Rattle.gc_graph.specs.State.{ObjectType}
use Rattle.marker_core.specs.Bodies.{holds}
use Rattle.page_words.specs.Seat.{SeatView}
use Rattle.ephemerons.specs.LookedAt.{IsLookedAt, LooksOnlyAt, LooksWithin}

-- none was looked at
pub looked_nowhere : (is_so : ℕ → Type 0) (u v : SeatView) → v.looked ≡ u.looked → LooksOnlyAt is_so u v
looked_nowhere is_so u v same = record { more = []; grown = same ∙ sym (append-nil u.looked); each = λ p there. absurd (omega (arith, there.1)) }

-- one was
pub looked_once : (is_so : ℕ → Type 0) (u v : SeatView) (a : ℕ) → v.looked ≡ u.looked ++ a ∷ [] → is_so a → LooksOnlyAt is_so u v
looked_once is_so u v a grown here = record {
  more = a ∷ [];
  grown = grown;
  each = λ p there. elim (Contains-cons_cases a [] p there) [ inl same ↦ subst is_so same here | inr none ↦ absurd (omega (arith, none.1)) ];
}

-- some were, and then others
pub looked_then : (is_so : ℕ → Type 0) (u v w : SeatView) → LooksOnlyAt is_so u v → LooksOnlyAt is_so v w → LooksOnlyAt is_so u w
looked_then is_so u v w x y = record {
  more = x.more ++ y.more;
  grown = y.grown ∙ ap (λ l. l ++ y.more) x.grown ∙ append_assoc u.looked x.more y.more;
  each = λ p there. elim (Contains-append_cases x.more y.more p there) [ inl early ↦ x.each p early | inr late ↦ y.each p late ];
}

-- those at such places are at others too
pub looked_as : (is_so is_too : ℕ → Type 0) (u v : SeatView) → ((p : ℕ) → is_so p → is_too p) → LooksOnlyAt is_so u v → LooksOnlyAt is_too u v
looked_as is_so is_too u v weaker x = record { more = x.more; grown = x.grown; each = λ p there. weaker p (x.each p there) }

-- what was marked, or a key, is so yet where more is marked
pub lookable_yet : (types : List ObjectType) (v w : SeatView) → w.bodies ≡ v.bodies → ((p : ℕ) → holds v.marked p ≡ true → holds w.marked p ≡ true)
    → (p : ℕ) → IsLookedAt types v p → IsLookedAt types w p
lookable_yet types v w bodies more p is = elim is [
  | inl marked ↦ inl (more p marked)
  | inr key ↦ inr (record {
    holder = key.holder;
    there = subst (λ bs. Contains bs key.holder) (sym bodies) key.there;
    marked = more key.holder.place key.marked;
    offset = key.offset;
    pair = key.pair;
    key = key.key;
  })
]

-- marked objects and keys were looked at, and then others while more was marked
pub looks_then : (types : List ObjectType) (u v w : SeatView) → w.bodies ≡ v.bodies → ((p : ℕ) → holds v.marked p ≡ true → holds w.marked p ≡ true)
    → LooksWithin types u v → LooksWithin types v w → LooksWithin types u w
looks_then types u v w bodies more x y =
    looked_then (IsLookedAt types w) u v w (looked_as (IsLookedAt types v) (IsLookedAt types w) u v (lookable_yet types v w bodies more) x) y
