-- A store keeps what is true of every state: its target waits for its mark, and a key stands over a value that was seen marked.
use Rattle.std.proofs.Common.{◌≡◌, ℕ, ◌+◌, ◌-◌, ◌<◌, List, map, Bool, true, false, not, cond, ◌&&◌, ◌||◌, eqb, Option, Some, None, refl, sym, ap, ◌∙◌, subst, inl, inr, arith, Contains}
use mathlib.Core.Logic.{◌⊎◌, ◌↔◌}
use Rattle.std.specs.List.{list_any}
use Rattle.std.specs.Option.{is_none}
use Rattle.std.proofs.lemmas.Bool.{cases_Bool, cases_eq, cond-true, cond-false, both_ways, and_parts, and_from, or_cases, eqb-true, eq-eqb, ne_eqb, not_from_false, not-true, eqb-false, false≢true}
use Rattle.std.proofs.lemmas.Option.{same_Some}
use Rattle.marker_core.specs.declared.states.Body.{Body}
use Rattle.marker_core.specs.declared.states.CoreState.{CoreState}
use Rattle.marker_core.specs.declared.states.Hand.{Hand}
use Rattle.marker_core.specs.declared.states.Part.{Part}
use Rattle.marker_core.specs.declared.states.Part.TheVariants.{Read, Mark, Key, Value}
use Rattle.marker_core.specs.declared.states.Role.{Role}
use Rattle.marker_core.specs.declared.states.Role.TheVariants.{StrongWord, WeakWord, KeyWord, ValueWord, PlainWord}
use Rattle.marker_core.specs.Bodies.{kinds_of_type, role_at, refers, keeps, is_traced_role, word_in, role_in, has_field, field_number, with_word, names_body, holds}
use Rattle.marker_core.specs.Closed.{IsClosedOver}
use Rattle.marker_core.specs.Hands.{role_at_hand}
use Rattle.marker_core.specs.Seats.{seat_of}
use Rattle.marker_core.specs.MutatorSteps.{can_store, core_stored}
use Rattle.marker_core.specs.SeatSteps.{key_fits, may_store, store_fits, keeps_in}
use Rattle.marker_core.specs.Views.{marks_at, traces_at, IsHand, IsNoted, IsHeaderRead}
use Rattle.marker_core.specs.Tracing.{IsCovered, IsInHand, StrongAccounted, PairsAccounted, marking_word, PartFits, HandsAreBodies, MayIsClosed}
use Rattle.marker_core.specs.Core.{IsCoreOk}
use Rattle.gc_graph.specs.Members.{any_member, any_from, Contains-map}
use Rattle.marker_core.specs.RoleOrder.{value_after_key}
use Rattle.marker_core.proofs.Tricolour.{Covers, cover_more}
use Rattle.marker_core.proofs.Claims.{is_none_tells}
use Rattle.marker_core.proofs.Quiet.{hands_of_none}
use Rattle.marker_core.proofs.Maps.{places_same, names_same, each_written, pair_written, field_low, field_high, written_or_kept}
use Rattle.marker_core.proofs.Written.{hit, stored_words}

unless : (x y : Bool) → (not x || y) ≡ true → x ≡ true → y ≡ true
unless true y h on = h
unless false y h on = absurd (false≢true on)

pub keeps_refers : (role : Role) → keeps role ≡ true → refers role ≡ true
keeps_refers StrongWord h = refl
keeps_refers ValueWord h = refl
keeps_refers WeakWord h = absurd (false≢true h)
keeps_refers KeyWord h = absurd (false≢true h)
keeps_refers PlainWord h = absurd (false≢true h)

module _ (s : CoreState) (ok : IsCoreOk s) (a w : ℕ) (no_pending : s.mutator.pending ≡ None) (no_hand : s.mutator.hand ≡ None) (o : Body) (there : Contains s.mutator.bodies o) (fits : store_fits (seat_of s) a w o ≡ true) where
  abbrev bodies : List Body
  bodies = s.mutator.bodies

  abbrev now : List Body
  now = map (with_word a w) bodies

  abbrev marks : ℕ → ℕ
  marks = marks_at s.mutator s.markers

  abbrev traces : ℕ → ℕ
  traces = traces_at s.mutator s.markers

  abbrev hand : Hand → Type 0
  hand = IsHand s.mutator s.markers

  abbrev number : ℕ
  number = field_number a o

  abbrev role : Role
  role = role_in s.types o number

  abbrev later : Option ℕ
  later = (core_stored s a w).mutator.pending

  -- ---- what the test tells

  abbrev first : Bool
  first = has_field a o

  abbrev second : Bool
  second = not (refers role) || names_body bodies w

  abbrev third : Bool
  third = may_store s.mutator.on s.mutator.may o.place role w

  abbrev fourth : Bool
  fourth = key_fits s.mutator.on s.mutator.seen role w (word_in o (number + 1))

  has : first ≡ true
  has = (and_parts first second (and_parts (first && second) third (and_parts (first && second && third) fourth fits).0).0).0

  pub names_new : refers role ≡ true → names_body bodies w ≡ true
  names_new =
      unless (refers role) (names_body bodies w)
      (and_parts first second (and_parts (first && second) third (and_parts (first && second && third) fourth fits).0).0).1

  may_new : s.mutator.on ≡ true → (holds s.mutator.may o.place ≡ true) × (refers role ≡ true → 0 < w → holds s.mutator.may (w - 1) ≡ true)
  may_new on =
      let both = and_parts (holds s.mutator.may o.place) (not (refers role) || eqb w 0 || holds s.mutator.may (w - 1))
      (unless s.mutator.on (holds s.mutator.may o.place && (not (refers role) || eqb w 0 || holds s.mutator.may (w - 1)))
      (and_parts (first && second) third (and_parts (first && second && third) fourth fits).0).1 on)
      in (
        both.0,
        λ r some. elim (or_cases (not (refers role) || eqb w 0) (holds s.mutator.may (w - 1)) both.1) [
          | inr member ↦ member
          | inl other ↦
              (let null : w ≡ 0 = eqb-true w 0 (unless (refers role) (eqb w 0) other r) in
              absurd (omega arith))
        ],
      )

  key_new : role ≡ KeyWord → key_fits s.mutator.on s.mutator.seen KeyWord w (word_in o (number + 1)) ≡ true
  key_new key =
      ap (λ r. key_fits s.mutator.on s.mutator.seen r w (word_in o (number + 1))) (sym key)
      ∙ (and_parts (first && second && third) fourth fits).1

  null_key_new : role ≡ KeyWord → w ≡ 0 → word_in o (number + 1) ≡ 0
  null_key_new key null =
      let value = word_in o (number + 1) in
      eqb-true value 0
      (sym (cond-true (eqb w 0) (eqb value 0) (not s.mutator.on || eqb value 0 || holds s.mutator.seen (value - 1)) (eq-eqb w 0 null)) ∙ key_new key)

  seen_value_new : s.mutator.on ≡ true → role ≡ KeyWord → (w ≡ 0 → ⊥) → (word_in o (number + 1) ≡ 0) ⊎ (holds s.mutator.seen (word_in o (number + 1) - 1) ≡ true)
  seen_value_new on key some =
      let value = word_in o (number + 1) in
      let test : (not s.mutator.on || eqb value 0 || holds s.mutator.seen (value - 1)) ≡ true =
      sym (cond-false (eqb w 0) (eqb value 0) (not s.mutator.on || eqb value 0 || holds s.mutator.seen (value - 1)) (ne_eqb w 0 some)) ∙ key_new key
      in
      elim (or_cases (not s.mutator.on || eqb value 0) (holds s.mutator.seen (value - 1)) test) [
        | inr seen ↦ inr seen
        | inl other ↦ inl (eqb-true value 0 (unless s.mutator.on (eqb value 0) other on))
      ]

  -- ---- which word it is

  record Hit (b : Body) (i : ℕ) : Type 0 where
    body : b ≡ o
    is_number : i ≡ number
    word : word_in (with_word a w b) i ≡ w
    is_role : role_in s.types b i ≡ role

  look : (b : Body) (i : ℕ) → Contains bodies b → Hit b i ⊎ (word_in (with_word a w b) i ≡ word_in b i)
  look b i h =
      let size = (ok.bodies_are_whole b h).fields in
      elim (written_or_kept a w b i size) [
        | inr kept ↦ inr kept.0
        | inl new ↦
            (let low = field_low a w b new.0 in
            let high = field_high a w b new.0 in
            let at = hit s ok a w o there has b (2 + i) h (omega arith) (omega arith) in
            let same : i ≡ number = omega (arith, at.1) in
            inl (record {
              body = at.0;
              is_number = same;
              word = new.2;
              is_role = ap (λ (c : Body). role_in s.types c i) at.0 ∙ ap (role_in s.types o) same;
            }))
      ]

  -- the word beside the one that was written is as before
  beside : (b : Body) (i j : ℕ) → Contains bodies b → Hit b i → (j ≡ i → ⊥) → word_in (with_word a w b) j ≡ word_in b j
  beside b i j h at other = elim (look b j h) [
    | inl too ↦ absurd (other (too.is_number ∙ sym at.is_number))
    | inr kept ↦ kept
  ]

  -- ---- what waits for its mark

  abbrev joins : Bool
  joins = s.mutator.on && not (eqb w 0) && list_any (keeps_in s.types a) bodies

  waits : s.mutator.on ≡ true → keeps role ≡ true → (w ≡ 0 → ⊥) → later ≡ Some (w - 1)
  waits on kept some =
      cond-true joins (Some (w - 1)) s.mutator.pending
      (and_from (s.mutator.on && not (eqb w 0)) (list_any (keeps_in s.types a) bodies)
      (and_from s.mutator.on (not (eqb w 0)) on (not_from_false (eqb w 0) (ne_eqb w 0 some)))
      (any_from (keeps_in s.types a) bodies o there (and_from (has_field a o) (keeps role) has kept)))

  pub later_is : (t : ℕ) → later ≡ Some t → (w - 1 ≡ t) × (0 < w) × (keeps role ≡ true)
  later_is t e = elim (cases_Bool joins) [
    | inr no_join ↦
        (let none : None ≡ Some t = sym no_pending ∙ sym (cond-false joins (Some (w - 1)) s.mutator.pending no_join) ∙ e in cc)
    | inl join ↦
        (let tests = and_parts (s.mutator.on && not (eqb w 0)) (list_any (keeps_in s.types a) bodies) join in
        let some : w ≡ 0 → ⊥ = eqb-false w 0 (not-true (eqb w 0) (and_parts s.mutator.on (not (eqb w 0)) tests.0).1) in
        let found = any_member (keeps_in s.types a) bodies tests.1 in
        let at = and_parts (has_field a found.0) (keeps (role_in s.types found.0 (field_number a found.0))) found.2 in
        let low = field_low a w found.0 at.0 in
        let high = field_high a w found.0 at.0 in
        let same = (hit s ok a w o there has found.0 (2 + field_number a found.0) found.1 (omega arith) (omega arith)).0 in (
          same_Some (w - 1) t (sym (cond-true joins (Some (w - 1)) s.mutator.pending join) ∙ e),
          omega arith,
          ap (λ (c : Body). keeps (role_in s.types c (field_number a c))) (sym same) ∙ at.1,
        ))
  ]

  covers : Covers marks marks s.mutator.pending later
  covers =
      cover_more marks marks s.mutator.pending later (λ x some. some)
      (λ t e. let none : None ≡ Some t = sym no_pending ∙ e in cc)

  -- what was stored in a word that keeps its target is covered
  new_covered : s.mutator.on ≡ true → keeps role ≡ true → IsCovered marks later w
  new_covered on kept = elim (cases_eq w 0) [ inl null ↦ inl null | inr some ↦ inr (inr (waits on kept some)) ]

  -- a word that keeps its target is covered if it was
  still_covered : s.mutator.on ≡ true → (b : Body) (i : ℕ) → Contains bodies b → keeps (role_in s.types b i) ≡ true
      → IsCovered marks s.mutator.pending (word_in b i) → IsCovered marks later (word_in (with_word a w b) i)
  still_covered on b i h kept covered = elim (look b i h) [
    | inl at ↦ subst (IsCovered marks later) (sym at.word) (new_covered on (ap keeps (sym at.is_role) ∙ kept))
    | inr same ↦ subst (IsCovered marks later) (sym same) (covers (word_in b i) covered)
  ]

  value_role : (b : Body) (i : ℕ) → role_in s.types b i ≡ KeyWord → role_in s.types b (i + 1) ≡ ValueWord
  value_role b i key = value_after_key (kinds_of_type s.types b.ty) i key

  -- ---- traced bodies

  strong_stored : s.mutator.on ≡ true → StrongAccounted s.types now marks traces later hand
  strong_stored on c i h =
      each_written a w
      (λ d. 0 < traces d.place → role_in s.types d i ≡ StrongWord → IsCovered marks later (word_in d i) ⊎ IsInHand hand d.place (i + 2)) bodies
      (λ b hb traced strong. elim (ok.strong_targets_accounted on b i hb traced strong) [
        | inl covered ↦ inl (still_covered on b i hb (ap keeps strong) covered)
        | inr held ↦ inr held
      ])
      c h

  abbrev PairFine : ℕ → Body → Type 0
  PairFine i d =
      (word_in d i ≡ 0) ⊎ (IsCovered marks later (word_in d (i + 1)) ⊎ (IsNoted s.mutator s.markers d.place (i + 2) ⊎ IsInHand hand d.place (i + 2)))

  pair_stored : s.mutator.on ≡ true → (b : Body) (i : ℕ) → Contains bodies b → 0 < traces b.place → role_in s.types b i ≡ KeyWord
      → PairFine i (with_word a w b)
  pair_stored on b i h traced key = elim (look b i h) [
    | inl at ↦ elim (cases_eq w 0) [
      | inl null ↦ inl (at.word ∙ null)
      | inr some ↦
          (let value : word_in (with_word a w b) (i + 1) ≡ word_in o (number + 1) =
          beside b i (i + 1) h at (λ e. omega arith) ∙ ap (λ (c : Body). word_in c (i + 1)) at.body
          ∙ ap (λ j. word_in o (j + 1)) at.is_number
          in
          let covered : IsCovered marks later (word_in o (number + 1)) =
          elim (seen_value_new on (sym at.is_role ∙ key) some) [
            | inl null ↦ inl null
            | inr seen ↦ inr (inl ((ok.may_is_closed on).seen_are_marked (word_in o (number + 1) - 1) seen))
          ]
          in
          inr (inl (subst (IsCovered marks later) (sym value) covered)))
    ]
    | inr same ↦ elim (ok.pairs_accounted on b i h traced key) [
      | inl null ↦ inl (same ∙ null)
      | inr more ↦ elim more [
        | inl covered ↦ inr (inl (still_covered on b (i + 1) h (ap keeps (value_role b i key)) covered))
        | inr other ↦ inr (inr other)
      ]
    ]
  ]

  pairs_stored : s.mutator.on ≡ true → PairsAccounted s.types now marks traces later hand (IsNoted s.mutator s.markers)
  pairs_stored on c i h =
      each_written a w (λ d. 0 < traces d.place → role_in s.types d i ≡ KeyWord → PairFine i d) bodies
      (λ b hb traced key. pair_stored on b i hb traced key) c h

  -- ---- hands

  key_in_may : s.mutator.on ≡ true → (b : Body) (i : ℕ) → Contains bodies b → role_in s.types b i ≡ KeyWord
      → (word_in b i ≡ 0) ⊎ (holds s.mutator.may (word_in b i - 1) ≡ true)
      → (word_in (with_word a w b) i ≡ 0) ⊎ (holds s.mutator.may (word_in (with_word a w b) i - 1) ≡ true)
  key_in_may on b i h key was = elim (look b i h) [
    | inr same ↦ elim was [ inl null ↦ inl (same ∙ null) | inr member ↦ inr (ap (λ x. holds s.mutator.may (x - 1)) same ∙ member) ]
    | inl at ↦ elim (cases_eq w 0) [
      | inl null ↦ inl (at.word ∙ null)
      | inr some ↦
          inr (ap (λ x. holds s.mutator.may (x - 1)) at.word ∙ (may_new on).1 (ap refers (sym at.is_role ∙ key)) (omega arith))
    ]
  ]

  -- the word at hand that is marked, before and after
  marking_after : s.mutator.on ≡ true → (b : Body) (i t : ℕ) (r : Role) → Contains bodies b → role_in s.types b i ≡ r → is_traced_role r ≡ true
      → (marking_word r b i ≡ t + 1) ⊎ IsCovered marks s.mutator.pending (marking_word r b i)
      → (marking_word r (with_word a w b) i ≡ t + 1) ⊎ IsCovered marks later (marking_word r (with_word a w b) i)
  marking_after on b i t KeyWord h e traced was = elim (look b (i + 1) h) [
    | inl at ↦
        inr (subst (IsCovered marks later) (sym at.word) (new_covered on (ap keeps (sym at.is_role ∙ value_role b i e))))
    | inr same ↦ elim was [
      | inl holds_it ↦ inl (same ∙ holds_it)
      | inr covered ↦ inr (subst (IsCovered marks later) (sym same) (covers (word_in b (i + 1)) covered))
    ]
  ]
  marking_after on b i t StrongWord h e traced was = elim (look b i h) [
    | inl at ↦ inr (subst (IsCovered marks later) (sym at.word) (new_covered on (ap keeps (sym at.is_role ∙ e))))
    | inr same ↦ elim was [
      | inl holds_it ↦ inl (same ∙ holds_it)
      | inr covered ↦ inr (subst (IsCovered marks later) (sym same) (covers (word_in b i) covered))
    ]
  ]
  marking_after on b i t WeakWord h e traced was = absurd (false≢true traced)
  marking_after on b i t ValueWord h e traced was = absurd (false≢true traced)
  marking_after on b i t PlainWord h e traced was = absurd (false≢true traced)

  part_stored : s.mutator.on ≡ true → (b : Body) (i : ℕ) (r : Role) → Contains bodies b → role_in s.types b i ≡ r → is_traced_role r ≡ true → (part : Part)
      → PartFits bodies marks s.mutator.pending s.mutator.may r b i part → PartFits now marks later s.mutator.may r (with_word a w b) i part
  part_stored on b i r h e traced Read part = tt
  part_stored on b i r h e traced (Mark t) part = (places_same a w bodies t ∙ part.0, marking_after on b i t r h e traced part.1)
  part_stored on b i r h e traced (Key k) part = (
    places_same a w bodies k ∙ part.0,
    part.1,
    elim (look b i h) [
      | inl at ↦ elim (cases_eq w 0) [
        | inl null ↦ inr (inl (at.word ∙ null))
        | inr some ↦
            inr (inr (ap (λ x. holds s.mutator.may (x - 1)) at.word ∙ (may_new on).1 (ap refers (sym at.is_role ∙ e ∙ part.1)) (omega arith)))
      ]
      | inr same ↦ elim part.2 [
        | inl holds_it ↦ inl (same ∙ holds_it)
        | inr other ↦ elim other [
          | inl null ↦ inr (inl (same ∙ null))
          | inr member ↦ inr (inr (ap (λ x. holds s.mutator.may (x - 1)) same ∙ member))
        ]
      ]
    ],
  )
  part_stored on b i r h e traced Value part = (part.0, key_in_may on b i h (e ∙ part.0) part.1)

  hands_stored : s.mutator.on ≡ true → HandsAreBodies s.types now marks later s.mutator.may hand s.markers
  hands_stored on = record {
    known = λ v x h known. places_same a w bodies x ∙ ok.hands_are_bodies.known v x h known;
    hands = λ h held.
        let was = ok.hands_are_bodies.hands h held in
        record {
          body = with_word a w was.body;
          there = Contains-map (with_word a w) bodies was.body was.there;
          place = was.place;
          ty = was.ty;
          past_serial = was.past_serial;
          at_hand = was.at_hand;
          part =
              part_stored on was.body (h.next - 2) (role_at_hand s.types h) was.there
              (ap (λ t. role_at (kinds_of_type s.types t) (h.next - 2)) was.ty) was.at_hand h.part was.part;
        };
  }

  -- ---- what may be kept

  over_key : s.mutator.on ≡ true → (b : Body) (i : ℕ) → Contains bodies b → role_in s.types b i ≡ KeyWord → Hit b i → 0 < word_in b (i + 1)
      → holds s.mutator.may (word_in b (i + 1) - 1) ≡ true
  over_key on b i h key at value =
      let same : word_in b (i + 1) ≡ word_in o (number + 1) =
      ap (λ (c : Body). word_in c (i + 1)) at.body ∙ ap (λ j. word_in o (j + 1)) at.is_number
      in
      elim (cases_eq w 0) [
        | inl null ↦ (let none = null_key_new (sym at.is_role ∙ key) null in absurd (omega arith))
        | inr some ↦ elim (seen_value_new on (sym at.is_role ∙ key) some) [
          | inl none ↦ absurd (omega arith)
          | inr seen ↦
              (let may = ok.may_is_closed on in
              ap (λ x. holds s.mutator.may (x - 1)) same
              ∙ may.marked_in (word_in o (number + 1) - 1) (may.seen_are_marked (word_in o (number + 1) - 1) seen))
        ]
      ]

  -- a value that is stored, or over which a key is stored, may be kept
  value_in_may : s.mutator.on ≡ true → (b : Body) (i : ℕ) → Contains bodies b → holds s.mutator.may b.place ≡ true → role_in s.types b i ≡ KeyWord
      → (word_in (with_word a w b) i ≡ 0) ⊎ (holds s.mutator.may (word_in (with_word a w b) i - 1) ≡ true) → 0 < word_in (with_word a w b) (i + 1)
      → holds s.mutator.may (word_in (with_word a w b) (i + 1) - 1) ≡ true
  value_in_may on b i h member key was some =
      let may = ok.may_is_closed on in
      elim (look b (i + 1) h) [
        | inl at ↦
            ap (λ x. holds s.mutator.may (x - 1)) at.word
            ∙ (may_new on).1 (ap refers (sym at.is_role ∙ value_role b i key)) (omega (arith, at.word))
        | inr same ↦
            (let value : 0 < word_in b (i + 1) = omega (arith, same) in
            ap (λ x. holds s.mutator.may (x - 1)) same
            ∙ elim (look b i h) [
              | inl at ↦ over_key on b i h key at value
              | inr kept ↦ elim was [
                | inl null ↦ may.values b i h member key (sym kept ∙ null) value
                | inr key_in ↦ elim (cases_eq (word_in b i) 0) [
                  | inl null ↦ may.values b i h member key null value
                  | inr key_some ↦
                      may.closed.pairs b i h member key (omega arith) (ap (λ x. holds s.mutator.may (x - 1)) (sym kept) ∙ key_in) value
                ]
              ]
            ])
      ]

  closed_stored : s.mutator.on ≡ true → IsClosedOver s.types now (holds s.mutator.may)
  closed_stored on =
      let may = ok.may_is_closed on in
      record {
        strong = λ c i h. each_written a w
            (λ d. holds s.mutator.may d.place ≡ true → role_in s.types d i ≡ StrongWord → 0 < word_in d i → holds s.mutator.may (word_in d i - 1) ≡ true)
            bodies
            (λ b hb member strong some. elim (look b i hb) [
              | inl at ↦
                  ap (λ x. holds s.mutator.may (x - 1)) at.word ∙ (may_new on).1 (ap refers (sym at.is_role ∙ strong)) (omega (arith, at.word))
              | inr same ↦ ap (λ x. holds s.mutator.may (x - 1)) same ∙ may.closed.strong b i hb member strong (omega (arith, same))
            ])
            c h;
        pairs = λ c i h. each_written a w
            (λ d. holds s.mutator.may d.place ≡ true → role_in s.types d i ≡ KeyWord → 0 < word_in d i
            → holds s.mutator.may (word_in d i - 1) ≡ true → 0 < word_in d (i + 1) → holds s.mutator.may (word_in d (i + 1) - 1) ≡ true)
            bodies (λ b hb member key some key_in value. value_in_may on b i hb member key (inr key_in) value) c h;
      }

  -- a body that may not be kept is stored into by nobody
  outside_kept : s.mutator.on ≡ true → (b : Body) → Contains bodies b → holds s.mutator.may b.place ≡ false → (i : ℕ)
      → word_in (with_word a w b) i ≡ word_in b i
  outside_kept on b h out i = elim (look b i h) [
    | inl at ↦
        absurd (both_ways (holds s.mutator.may b.place) out (ap (λ (c : Body). holds s.mutator.may c.place) at.body ∙ (may_new on).0))
    | inr same ↦ same
  ]

  quiet_pending : s.mutator.on ≡ false → later ≡ None
  quiet_pending off =
      ap (λ on. cond (on && not (eqb w 0) && list_any (keeps_in s.types a) bodies) (Some (w - 1)) s.mutator.pending) off ∙ no_pending

  may_stored : s.mutator.on ≡ true
      → MayIsClosed s.types now marks traces later s.mutator.may s.mutator.seen hand (IsHeaderRead s.mutator s.markers)
  may_stored on =
      let may = ok.may_is_closed on in
      record {
        are_places = λ x member. places_same a w bodies x ∙ may.are_places x member;
        closed = closed_stored on;
        marked_in = may.marked_in;
        hands_in = may.hands_in;
        loaded_in = may.loaded_in;
        pending_in = λ t e.
            let is = later_is t e in ap (holds s.mutator.may) (sym is.0) ∙ (may_new on).1 (keeps_refers role is.2) is.1;
        values = λ c i h. each_written a w
            (λ d. holds s.mutator.may d.place ≡ true → role_in s.types d i ≡ KeyWord → word_in d i ≡ 0 → 0 < word_in d (i + 1)
            → holds s.mutator.may (word_in d (i + 1) - 1) ≡ true)
            bodies (λ b hb member key null value. value_in_may on b i hb member key (inl null) value) c h;
        others = λ c i h. each_written a w
            (λ d. holds s.mutator.may d.place ≡ false → role_in s.types d i ≡ KeyWord → (word_in d i ≡ 0) ↔ (word_in d (i + 1) ≡ 0))
            bodies
            (λ b hb out key.
            let kept = outside_kept on b hb out in
            let was = may.others b i hb out key in
            (λ null. kept (i + 1) ∙ was.0 (sym (kept i) ∙ null), λ null. kept i ∙ was.1 (sym (kept (i + 1)) ∙ null)))
            c h;
        seen_are_marked = may.seen_are_marked;
        done_are_traced = may.done_are_traced;
      }

  pub stored_state : IsCoreOk (core_stored s a w)
  stored_state =
      let words = stored_words s ok a w o there has in
      record {
        are_types = ok.are_types;
        has_room = words.room;
        bodies_are_whole = words.whole;
        bodies_lie_apart = words.apart;
        serials_differ = words.differ;
        headers_match = words.headers;
        serials_match = words.serials;
        starts_match = words.starts;
        fields_match = words.fields;
        filled_match = words.filled;
        references_name_bodies = λ c i h. each_written a w
            (λ d. holds s.mutator.dead d.place ≡ false → refers (role_in s.types d i) ≡ true → names_body now (word_in d i) ≡ true) bodies
            (λ b hb alive r. names_same a w bodies (word_in (with_word a w b) i) ∙ elim (look b i hb) [
              | inl at ↦ ap (names_body bodies) at.word ∙ names_new (ap refers (sym at.is_role) ∙ r)
              | inr same ↦ ap (names_body bodies) same ∙ ok.references_name_bodies b i hb alive r
            ])
            c h;
        quiet_while_off = record {
          no_pending = λ off. quiet_pending off;
          no_hand = ok.quiet_while_off.no_hand;
          no_views = ok.quiet_while_off.no_views;
          no_dead = ok.quiet_while_off.no_dead;
          lent_views = ok.quiet_while_off.lent_views;
          spent_views = ok.quiet_while_off.spent_views;
          halted_views = λ v h halted. words.stop ∙ ok.quiet_while_off.halted_views v h halted;
        };
        traced_are_marked = ok.traced_are_marked;
        marks_counted_once = record {
          once = ok.marks_counted_once.once;
          are_bodies = λ x some. places_same a w bodies x ∙ ok.marks_counted_once.are_bodies x some;
          dead_are_unmarked = λ x dead.
              let was = ok.marks_counted_once.dead_are_unmarked x dead in (places_same a w bodies x ∙ was.0, was.1);
        };
        strong_targets_accounted = strong_stored;
        pairs_accounted = pairs_stored;
        noted_are_pairs = λ on p offset note. pair_written a w s.types bodies p offset (ok.noted_are_pairs on p offset note);
        hands_are_bodies = elim (cases_Bool s.mutator.on) [
          | inl on ↦ hands_stored on
          | inr off ↦ hands_of_none s ok (ok.quiet_while_off.no_views off) s.types now marks later s.mutator.may no_hand
        ];
        may_is_closed = may_stored;
      }

pub store_ok : (s : CoreState) → IsCoreOk s → (a w : ℕ) → can_store s a w ≡ true → IsCoreOk (core_stored s a w)
store_ok s ok a w can =
    let tests = and_parts (is_none s.mutator.pending && is_none s.mutator.hand) (list_any (store_fits (seat_of s) a w) s.mutator.bodies) can in
    let none = and_parts (is_none s.mutator.pending) (is_none s.mutator.hand) tests.0 in
    let found = any_member (store_fits (seat_of s) a w) s.mutator.bodies tests.1 in
    stored_state s ok a w (is_none_tells s.mutator.pending none.0) (is_none_tells s.mutator.hand none.1) found.0 found.1 found.2
