-- What keeps traced bodies accounted for while marks grow and hands move on.
use Rattle.std.proofs.Common.{◌≡◌, ℕ, ◌+◌, ◌-◌, ◌<◌, List, set, length, true, Option, Some, sym, ap, ◌∙◌, subst, inl, inr, arith, Contains}
use mathlib.Core.Logic.{◌⊎◌}
use Rattle.std.proofs.lemmas.Bool.{cases_order}
use Rattle.std.proofs.lemmas.Option.{same_Some}
use Rattle.gc_graph.specs.declared.kind.Kind.{Kind}
use Rattle.marker_core.specs.declared.states.Body.{Body}
use Rattle.marker_core.specs.declared.states.Hand.{Hand}
use Rattle.marker_core.specs.declared.states.MarkerView.{MarkerView}
use Rattle.marker_core.specs.declared.states.MutatorView.{MutatorView}
use Rattle.marker_core.specs.declared.states.Part.{Part}
use Rattle.marker_core.specs.declared.states.Part.TheVariants.{Read, Mark, Key, Value}
use Rattle.marker_core.specs.declared.states.Role.{Role}
use Rattle.marker_core.specs.declared.states.Role.TheVariants.{StrongWord, KeyWord}
use Rattle.marker_core.specs.Bodies.{role_at, kinds_of_type, is_traced_role, word_in, role_in, is_place, holds}
use Rattle.marker_core.specs.Hands.{hand_moved, role_at_hand}
use Rattle.marker_core.specs.Views.{IsHand, spent_view, view_at}
use Rattle.marker_core.specs.Matching.{AreWhole, LieApart}
use Rattle.marker_core.specs.Tracing.{IsCovered, IsInHand, StrongAccounted, PairsAccounted, IsPairAt, marking_word, PartFits, HandFits, IsLoaded}
use Rattle.marker_core.proofs.Members.{was_in_or_written, still_in_or_overwritten, written_is_in}
use Rattle.marker_core.proofs.Apart.{same_place}
use Rattle.marker_core.proofs.Offsets.{hand_past_is, hand_past_finds}

-- ---- one hand changes

pub record HandChanges (old new : Hand → Type 0) (gone come : Option Hand) : Type 0 where
  pub from : (g : Hand) → new g → old g ⊎ (come ≡ Some g)
  pub lost : (g : Hand) → old g → new g ⊎ (gone ≡ Some g)
  pub comes : (g : Hand) → come ≡ Some g → new g

pub mutator_changes : (m now : MutatorView) (views : List MarkerView) → HandChanges (IsHand m views) (IsHand now views) m.hand now.hand
mutator_changes m now views = record {
  from = λ g is. elim is [ inl own ↦ inr own | inr other ↦ inl (inr other) ];
  lost = λ g is. elim is [ inl own ↦ inr own | inr other ↦ inl (inr other) ];
  comes = λ g own. inl own;
}

pub marker_changes : (m : MutatorView) (views : List MarkerView) (k : ℕ) (now : MarkerView) → k < length views
    → HandChanges (IsHand m views) (IsHand m (set views k now)) (view_at views k).hand now.hand
marker_changes m views k now within = record {
  from = λ g is. elim is [
    | inl own ↦ inl (inl own)
    | inr other ↦ elim (was_in_or_written views k now other.0 within other.1) [
      | inl same ↦ inr (sym (ap (λ (v : MarkerView). v.hand) same) ∙ other.2)
      | inr old ↦ inl (inr (other.0, old, other.2))
    ]
  ];
  lost = λ g is. elim is [
    | inl own ↦ inl (inl own)
    | inr other ↦ elim (still_in_or_overwritten views k now other.0 spent_view within other.1) [
      | inl same ↦ inr (sym (ap (λ (v : MarkerView). v.hand) same) ∙ other.2)
      | inr still ↦ inl (inr (other.0, still, other.2))
    ]
  ];
  comes = λ g own. inr (now, written_is_in views k now within, own);
}

-- ---- covered targets

pub cover_more : (marks now : ℕ → ℕ) (pending later : Option ℕ) → ((x : ℕ) → 0 < marks x → 0 < now x)
    → ((t : ℕ) → pending ≡ Some t → (later ≡ Some t) ⊎ (0 < now t)) → (w : ℕ) → IsCovered marks pending w → IsCovered now later w
cover_more marks now pending later grown kept w covered = elim covered [
  | inl null ↦ inl null
  | inr other ↦ elim other [
    | inl marked ↦ inr (inl (grown (w - 1) marked))
    | inr waits ↦ elim (kept (w - 1) waits) [ inl still ↦ inr (inr still) | inr marked ↦ inr (inl marked) ]
  ]
]

abbrev pub Covers : (ℕ → ℕ) → (ℕ → ℕ) → Option ℕ → Option ℕ → Type 0
Covers marks now pending later = (w : ℕ) → IsCovered marks pending w → IsCovered now later w

module _ (types : List (List Kind)) (bodies : List Body) (marks now traces : ℕ → ℕ) (pending later : Option ℕ) (hand : Hand → Type 0) (covers : Covers marks now pending later) where
  pub strong_covered : StrongAccounted types bodies marks traces pending hand → StrongAccounted types bodies now traces later hand
  strong_covered all b i h traced role = elim (all b i h traced role) [ inl c ↦ inl (covers (word_in b i) c) | inr held ↦ inr held ]

  pub pairs_covered : (noted more : ℕ → ℕ → Type 0) → ((p o : ℕ) → noted p o → more p o)
      → PairsAccounted types bodies marks traces pending hand noted → PairsAccounted types bodies now traces later hand more
  pairs_covered noted more kept all b i h traced role = elim (all b i h traced role) [
    | inl null ↦ inl null
    | inr some ↦ elim some [
      | inl c ↦ inr (inl (covers (word_in b (i + 1)) c))
      | inr other ↦ elim other [ inl n ↦ inr (inr (inl (kept b.place (i + 2) n))) | inr held ↦ inr (inr (inr held)) ]
    ]
  ]

  part_covered : (may more : List ℕ) → ((x : ℕ) → holds may x ≡ true → holds more x ≡ true) → (role : Role) (b : Body) (i : ℕ) (part : Part)
      → PartFits bodies marks pending may role b i part → PartFits bodies now later more role b i part
  part_covered may more grown role b i Read fits = tt
  part_covered may more grown role b i (Mark t) fits =
      (fits.0, elim fits.1 [ inl same ↦ inl same | inr c ↦ inr (covers (marking_word role b i) c) ])
  part_covered may more grown role b i (Key k) fits = (
    fits.0,
    fits.1,
    elim fits.2 [
      | inl same ↦ inl same
      | inr other ↦ elim other [ inl null ↦ inr (inl null) | inr member ↦ inr (inr (grown (word_in b i - 1) member)) ]
    ],
  )
  part_covered may more grown role b i Value fits =
      (fits.0, elim fits.1 [ inl null ↦ inl null | inr member ↦ inr (grown (word_in b i - 1) member) ])

  pub fits_covered : (may more : List ℕ) → ((x : ℕ) → holds may x ≡ true → holds more x ≡ true) → (h : Hand)
      → HandFits types bodies marks pending may h → HandFits types bodies now later more h
  fits_covered may more grown h fits = record {
    body = fits.body;
    there = fits.there;
    place = fits.place;
    ty = fits.ty;
    past_serial = fits.past_serial;
    at_hand = fits.at_hand;
    part = part_covered may more grown (role_at_hand types h) fits.body (h.next - 2) h.part fits.part;
  }

-- ---- a hand takes a turn: it moves on from a word that is accounted for, or stays there with another part

-- the strong word or the pair at hand is accounted for without the hand
abbrev pub IsWordDone : List (List Kind) → List Body → (ℕ → ℕ) → Option ℕ → (ℕ → ℕ → Type 0) → Hand → Type 0
IsWordDone types bodies marks pending noted h =
    (b : Body) (i : ℕ) → Contains bodies b → b.place ≡ h.place → h.next ≡ i + 2
    → (role_in types b i ≡ StrongWord → IsCovered marks pending (word_in b i))
    × (role_in types b i ≡ KeyWord → (word_in b i ≡ 0) ⊎ (IsCovered marks pending (word_in b (i + 1)) ⊎ noted b.place (i + 2)))

abbrev pub KeepsPart : List (List Kind) → List Body → (ℕ → ℕ) → Option ℕ → List ℕ → Hand → Option Hand → Type 0
KeepsPart types bodies marks pending may h n =
    (part : Part) × (n ≡ Some (record h { part = part }))
    × ((b : Body) → Contains bodies b → b.place ≡ h.place → PartFits bodies marks pending may (role_at_hand types h) b (h.next - 2) part)
    × ((t : ℕ) → IsLoaded part t → holds may t ≡ true)

abbrev pub HandTurn : List (List Kind) → List Body → (ℕ → ℕ) → Option ℕ → List ℕ → (ℕ → ℕ → Type 0) → Hand → Option Hand → Type 0
HandTurn types bodies marks pending may noted h n =
    ((n ≡ hand_moved types h) × IsWordDone types bodies marks pending noted h) ⊎ KeepsPart types bodies marks pending may h n

module _ (count : ℕ) (types : List (List Kind)) (bodies : List Body) (whole : AreWhole count types bodies) (apart : LieApart bodies) (marks : ℕ → ℕ) (pending : Option ℕ) (may : List ℕ) (noted : ℕ → ℕ → Type 0) (old new : Hand → Type 0) (h : Hand) (n : Option Hand) (changes : HandChanges old new (Some h) n) (fits : HandFits types bodies marks pending may h) (turn : HandTurn types bodies marks pending may noted h n) where
  -- the hand's type is that of any body at its place
  same_type : (b : Body) → Contains bodies b → h.place ≡ b.place → h.ty ≡ b.ty
  same_type b there at =
      sym fits.ty ∙ ap (λ (c : Body). c.ty) (same_place count types bodies whole apart fits.body b fits.there there (fits.place ∙ at))

  -- who was in the hand still is in one, or that word is done
  in_hand_after : (b : Body) (i : ℕ) → Contains bodies b → is_traced_role (role_in types b i) ≡ true → IsInHand old b.place (i + 2)
      → IsInHand new b.place (i + 2) ⊎ ((b.place ≡ h.place) × (h.next ≡ i + 2) × IsWordDone types bodies marks pending noted h)
  in_hand_after b i there role held = elim (changes.lost held.0 held.1) [
    | inl still ↦ inl (held.0, still, held.2, held.3)
    | inr gone ↦
        (let same : h ≡ held.0 = same_Some h held.0 gone in
        let at : h.place ≡ b.place = ap (λ (g : Hand). g.place) same ∙ held.2 in
        let next : h.next ≡ held.0.next = ap (λ (g : Hand). g.next) same in
        elim turn [
          | inr keeps ↦ inl (record h { part = keeps.0 }, changes.comes (record h { part = keeps.0 }) keeps.1, at, omega (arith, held.3))
          | inl moves ↦ elim (cases_order h.next (i + 2)) [
            | inl here ↦ inr (sym at, here, moves.1)
            | inr off ↦ elim off [
              | inl before ↦
                  (let role' : is_traced_role (role_at (kinds_of_type types h.ty) i) ≡ true =
                  ap (λ t. is_traced_role (role_at (kinds_of_type types t) i)) (same_type b there at) ∙ role
                  in
                  let found = hand_past_finds types h.place h.ty h.next i role' before in
                  inl (found.0, changes.comes found.0 (moves.0 ∙ found.1), found.2 ∙ at, found.3))
              | inr past ↦ absurd (omega (arith, held.3))
            ]
          ]
        ])
  ]

  pub strong_turned : (traces : ℕ → ℕ) → StrongAccounted types bodies marks traces pending old → StrongAccounted types bodies marks traces pending new
  strong_turned traces all b i there traced role = elim (all b i there traced role) [
    | inl c ↦ inl c
    | inr held ↦ elim (in_hand_after b i there (ap is_traced_role role) held) [
      | inl still ↦ inr still
      | inr here ↦ inl ((here.2 b i there here.0 here.1).0 role)
    ]
  ]

  pub pairs_turned : (traces : ℕ → ℕ) → PairsAccounted types bodies marks traces pending old noted → PairsAccounted types bodies marks traces pending new noted
  pairs_turned traces all b i there traced role = elim (all b i there traced role) [
    | inl null ↦ inl null
    | inr some ↦ elim some [
      | inl c ↦ inr (inl c)
      | inr other ↦ elim other [
        | inl note ↦ inr (inr (inl note))
        | inr held ↦ elim (in_hand_after b i there (ap is_traced_role role) held) [
          | inl still ↦ inr (inr (inr still))
          | inr here ↦ elim ((here.2 b i there here.0 here.1).1 role) [
            | inl null ↦ inl null
            | inr done ↦ elim done [ inl c ↦ inr (inl c) | inr note ↦ inr (inr (inl note)) ]
          ]
        ]
      ]
    ]
  ]

  moved_fits : (g : Hand) → hand_moved types h ≡ Some g → HandFits types bodies marks pending may g
  moved_fits g e =
      let past = hand_past_is types h.place h.ty h.next g e in
      record {
        body = fits.body;
        there = fits.there;
        place = fits.place ∙ sym (ap (λ (x : Hand). x.place) past.is);
        ty = fits.ty ∙ sym (ap (λ (x : Hand). x.ty) past.is);
        past_serial = past.past_serial;
        at_hand = ap (λ (x : Hand). is_traced_role (role_at (kinds_of_type types x.ty) (g.next - 2))) past.is ∙ past.at_hand;
        part =
            subst (PartFits bodies marks pending may (role_at_hand types g) fits.body (g.next - 2))
            (sym (ap (λ (x : Hand). x.part) past.is)) tt;
      }

  kept_fits : (part : Part) → PartFits bodies marks pending may (role_at_hand types h) fits.body (h.next - 2) part
      → HandFits types bodies marks pending may (record h { part = part })
  kept_fits part part_fits = record {
    body = fits.body;
    there = fits.there;
    place = fits.place;
    ty = fits.ty;
    past_serial = fits.past_serial;
    at_hand = fits.at_hand;
    part = part_fits;
  }

  pub hands_turned : ((g : Hand) → old g → HandFits types bodies marks pending may g) → (g : Hand) → new g → HandFits types bodies marks pending may g
  hands_turned all g is = elim (changes.from g is) [
    | inl was ↦ all g was
    | inr come ↦ elim turn [
      | inl moves ↦ moved_fits g (sym moves.0 ∙ come)
      | inr keeps ↦
          (let same : record h { part = keeps.0 } ≡ g = same_Some (record h { part = keeps.0 }) g (sym keeps.1 ∙ come) in
          subst (HandFits types bodies marks pending may) same (kept_fits keeps.0 (keeps.2 fits.body fits.there fits.place)))
    ]
  ]

  pub hands_in_turned : ((g : Hand) → old g → holds may g.place ≡ true) → holds may h.place ≡ true → (g : Hand) → new g → holds may g.place ≡ true
  hands_in_turned all own g is = elim (changes.from g is) [
    | inl was ↦ all g was
    | inr come ↦ elim turn [
      | inl moves ↦
          (let past = hand_past_is types h.place h.ty h.next g (sym moves.0 ∙ come) in
          ap (λ (x : Hand). holds may x.place) past.is ∙ own)
      | inr keeps ↦
          (let same : record h { part = keeps.0 } ≡ g = same_Some (record h { part = keeps.0 }) g (sym keeps.1 ∙ come) in
          ap (λ (x : Hand). holds may x.place) (sym same) ∙ own)
    ]
  ]

  pub loaded_in_turned : ((g : Hand) (t : ℕ) → old g → IsLoaded g.part t → holds may t ≡ true) → (g : Hand) (t : ℕ) → new g → IsLoaded g.part t → holds may t ≡ true
  loaded_in_turned all g t is loaded = elim (changes.from g is) [
    | inl was ↦ all g t was loaded
    | inr come ↦ elim turn [
      | inl moves ↦
          (let past = hand_past_is types h.place h.ty h.next g (sym moves.0 ∙ come) in
          let read : Read ≡ Mark t = sym (ap (λ (x : Hand). x.part) past.is) ∙ loaded in
          cc)
      | inr keeps ↦
          (let same : record h { part = keeps.0 } ≡ g = same_Some (record h { part = keeps.0 }) g (sym keeps.1 ∙ come) in
          keeps.3 t (ap (λ (x : Hand). x.part) same ∙ loaded))
    ]
  ]

-- ---- the same hands, told in another way

module _ (types : List (List Kind)) (bodies : List Body) (marks traces : ℕ → ℕ) (pending : Option ℕ) (old new : Hand → Type 0) (goes : (g : Hand) → old g → new g) where
  same_held : (p offset : ℕ) → IsInHand old p offset → IsInHand new p offset
  same_held p offset held = (held.0, goes held.0 held.1, held.2, held.3)

  pub strong_same : StrongAccounted types bodies marks traces pending old → StrongAccounted types bodies marks traces pending new
  strong_same all b i h traced role = elim (all b i h traced role) [ inl c ↦ inl c | inr held ↦ inr (same_held b.place (i + 2) held) ]

  pub pairs_same : (noted more : ℕ → ℕ → Type 0) → ((p o : ℕ) → noted p o → more p o)
      → PairsAccounted types bodies marks traces pending old noted → PairsAccounted types bodies marks traces pending new more
  pairs_same noted more kept all b i h traced role = elim (all b i h traced role) [
    | inl null ↦ inl null
    | inr some ↦ elim some [
      | inl c ↦ inr (inl c)
      | inr other ↦ elim other [
        | inl n ↦ inr (inr (inl (kept b.place (i + 2) n)))
        | inr held ↦ inr (inr (inr (same_held b.place (i + 2) held)))
      ]
    ]
  ]

-- ---- more bodies

pub pair_among_more : (bodies more : List Body) → ((b : Body) → Contains bodies b → Contains more b) → (types : List (List Kind)) (p offset : ℕ)
    → IsPairAt types bodies p offset → IsPairAt types more p offset
pair_among_more bodies more kept types p offset pair = record {
  body = pair.body;
  there = kept pair.body pair.there;
  place = pair.place;
  past_serial = pair.past_serial;
  key = pair.key;
}

module _ (bodies more : List Body) (marks : ℕ → ℕ) (pending : Option ℕ) (may wider : List ℕ) (there : (x : ℕ) → is_place bodies x ≡ true → is_place more x ≡ true) (grown : (x : ℕ) → holds may x ≡ true → holds wider x ≡ true) where
  part_among_more : (role : Role) (b : Body) (i : ℕ) (part : Part) → PartFits bodies marks pending may role b i part
      → PartFits more marks pending wider role b i part
  part_among_more role b i Read fits = tt
  part_among_more role b i (Mark t) fits = (there t fits.0, fits.1)
  part_among_more role b i (Key k) fits = (
    there k fits.0,
    fits.1,
    elim fits.2 [
      | inl same ↦ inl same
      | inr other ↦ elim other [ inl null ↦ inr (inl null) | inr member ↦ inr (inr (grown (word_in b i - 1) member)) ]
    ],
  )
  part_among_more role b i Value fits =
      (fits.0, elim fits.1 [ inl null ↦ inl null | inr member ↦ inr (grown (word_in b i - 1) member) ])

  pub fits_among_more : (types : List (List Kind)) (h : Hand) → ((b : Body) → Contains bodies b → Contains more b)
      → HandFits types bodies marks pending may h → HandFits types more marks pending wider h
  fits_among_more types h kept fits = record {
    body = fits.body;
    there = kept fits.body fits.there;
    place = fits.place;
    ty = fits.ty;
    past_serial = fits.past_serial;
    at_hand = fits.at_hand;
    part = part_among_more (role_at_hand types h) fits.body (h.next - 2) h.part fits.part;
  }
