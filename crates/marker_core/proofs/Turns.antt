-- What a hand that reads a word, or looks at its key's header, may become.
use Rattle.std.proofs.Common.{◌≡◌, ℕ, ◌+◌, ◌-◌, ◌<◌, List, [], ◌∷◌, length, get_or, true, false, cond, eqb, Option, Some, refl, sym, ap, ◌∙◌, subst, inl, inr, arith, Contains}
use Rattle.std.proofs.lemmas.Bool.{cases_Bool, cases_eq, cond-true, cond-false, eqb-true, ne_eqb, false≢true}
use Rattle.std.proofs.lemmas.List.Elements.{Contains-push_cases}
use Rattle.gc_graph.specs.declared.kind.Kind.{Kind}
use Rattle.marker_core.specs.declared.states.Body.{Body}
use Rattle.marker_core.specs.declared.states.CoreState.{CoreState}
use Rattle.marker_core.specs.declared.states.Hand.{Hand}
use Rattle.marker_core.specs.declared.states.Part.{Part}
use Rattle.marker_core.specs.declared.states.Part.TheVariants.{Read, Mark, Key, Value}
use Rattle.marker_core.specs.declared.states.Role.TheVariants.{StrongWord, KeyWord}
use Rattle.marker_core.specs.Layout.{has_mark, is_marked}
use Rattle.marker_core.specs.Bodies.{role_at, kinds_of_type, refers, is_traced_role, word_in, role_in, is_place, holds}
use Rattle.marker_core.specs.Hands.{hand_moved, hand_read, hand_looked, role_at_hand, part_found, wants_word, wants_key, noted_pair}
use Rattle.marker_core.specs.Views.{marks_at, traces_at, IsHand}
use Rattle.marker_core.specs.Matching.{IsWhole}
use Rattle.marker_core.specs.Tracing.{IsPairAt, PartFits, HandFits, marking_word}
use Rattle.marker_core.specs.Core.{IsCoreOk}
use Rattle.marker_core.specs.Laws.{AllNameBodies}
use Rattle.marker_core.proofs.Members.{nothing_in}
use Rattle.marker_core.proofs.Apart.{same_place, body_of_place, named}
use Rattle.marker_core.proofs.Counts.{true_is_some}
use Rattle.marker_core.specs.RoleOrder.{value_after_key}
use Rattle.marker_core.proofs.Edges.{refers_within, traced_cases, traced_refers}
use Rattle.marker_core.proofs.Headers.{mark_tells}
use Rattle.marker_core.proofs.Tricolour.{HandTurn}

pub within_fields : (count : ℕ) (types : List (List Kind)) (b : Body) (i : ℕ) → IsWhole count types b → refers (role_in types b i) ≡ true → i < length b.fields
within_fields count types b i whole r = omega (arith, refers_within (kinds_of_type types b.ty) i r, whole.room, whole.fields)

same_mark : (m n : ℕ) → Mark m ≡ Mark n → m ≡ n
same_mark m n e = cc

key_or_mark : (m n : ℕ) → Key m ≡ Mark n → ⊥
key_or_mark m n e = cc

value_or_mark : (n : ℕ) → Value ≡ Mark n → ⊥
value_or_mark n e = cc

pub strong_or_key : StrongWord ≡ KeyWord → ⊥
strong_or_key e = cc

-- where the key's header has no mark the pair at hand is noted
pub noted_here : (header : ℕ) (h : Hand) → has_mark header ≡ false → Contains (noted_pair header (Some h)) (h.place, h.next)
noted_here header h unmarked =
    subst (λ l. Contains l (h.place, h.next)) (sym (cond-false (has_mark header) [] _ unmarked)) (0, omega arith, refl)

-- and no other is
noted_at_hand : (header : ℕ) (h : Hand) (q : ℕ × ℕ) → Contains (noted_pair header (Some h)) q → (h.place, h.next) ≡ q
noted_at_hand header h q note =
    let at : ℕ × ℕ = (h.place, h.next) in
    elim (cases_Bool (has_mark header)) [
      | inl marked ↦ absurd (nothing_in q (subst (λ l. Contains l q) (cond-true (has_mark header) [] (at ∷ []) marked) note))
      | inr unmarked ↦
          elim (Contains-push_cases [] at q (subst (λ l. Contains l q) (cond-false (has_mark header) [] (at ∷ []) unmarked) note)) [
            | inl none ↦ absurd (nothing_in q none)
            | inr same ↦ same
          ]
    ]

module _ (s : CoreState) (ok : IsCoreOk s) (on : s.mutator.on ≡ true) where
  pub all_name_bodies : AllNameBodies s.types s.mutator.bodies
  all_name_bodies b i h r =
      ok.references_name_bodies b i h (ap (λ dead. holds dead b.place) (ok.quiet_while_off.no_dead on)) r

  -- the word at an address of a body's references is the body's
  pub word_is : (b : Body) (i a : ℕ) → Contains s.mutator.bodies b → refers (role_in s.types b i) ≡ true → a ≡ b.place + 2 + i
      → get_or s.words a 0 ≡ word_in b i
  word_is b i a h r at =
      ap (λ x. get_or s.words x 0) at ∙ ok.fields_match b i h (within_fields s.count s.types b i (ok.bodies_are_whole b h) r)

  module _ (noted : ℕ → ℕ → Type 0) (h : Hand) (held : IsHand s.mutator s.markers h) (a : ℕ) where
    abbrev Turns : Option Hand → Type 0
    Turns n = HandTurn s.types s.mutator.bodies (marks_at s.mutator s.markers) s.mutator.pending s.mutator.may noted h n

    abbrev Fits : Body → Part → Type 0
    Fits b part = PartFits s.mutator.bodies (marks_at s.mutator s.markers) s.mutator.pending s.mutator.may (role_at_hand s.types h) b (h.next - 2) part

    abbrev hand_fits : HandFits s.types s.mutator.bodies (marks_at s.mutator s.markers) s.mutator.pending s.mutator.may h
    hand_fits = ok.hands_are_bodies.hands h held

    -- the body in the hand is the only one at its place
    of_body : (P : Body → Type 0) → P hand_fits.body → (b : Body) → Contains s.mutator.bodies b → b.place ≡ h.place → P b
    of_body P own b there at =
        subst P
        (same_place s.count s.types s.mutator.bodies ok.bodies_are_whole ok.bodies_lie_apart hand_fits.body b hand_fits.there there (hand_fits.place ∙ sym at)) own

    role_is : role_in s.types hand_fits.body (h.next - 2) ≡ role_at_hand s.types h
    role_is = ap (λ t. role_at (kinds_of_type s.types t) (h.next - 2)) hand_fits.ty

    body_in_may : holds s.mutator.may hand_fits.body.place ≡ true
    body_in_may = ap (holds s.mutator.may) hand_fits.place ∙ (ok.may_is_closed on).hands_in h held

    abbrev word : ℕ
    word = get_or s.words a 0

    after_null : word ≡ 0 → hand_read s.types word h ≡ hand_moved s.types h
    after_null null =
        ap (λ w. cond (eqb w 0) (hand_moved s.types h) (Some (record h { part = part_found (role_at_hand s.types h) h.part (w - 1) }))) null

    after_some : (part : Part) → (word ≡ 0 → ⊥) → part_found (role_at_hand s.types h) h.part (word - 1) ≡ part
        → hand_read s.types word h ≡ Some (record h { part = part })
    after_some part some found =
        cond-false (eqb word 0) (hand_moved s.types h) (Some (record h { part = part_found (role_at_hand s.types h) h.part (word - 1) })) (ne_eqb word 0 some)
        ∙ ap (λ p. Some (record h { part = p })) found

    -- where the word read is a null strong word or a null key
    null_done : word ≡ 0 → word ≡ word_in hand_fits.body (h.next - 2) → Turns (hand_read s.types word h)
    null_done null is = inl (
      after_null null,
      λ b i there at next.
          let same : word_in b i ≡ 0 =
          of_body (λ c. word_in c i ≡ 0) (ap (word_in hand_fits.body) (let k : i ≡ h.next - 2 = omega arith in k) ∙ sym is ∙ null) b there at
          in
          (λ role. inl same, λ role. inl same),
    )

    -- the word is read, or the key of the pair
    turn_at_read : h.part ≡ Read → a ≡ h.place + h.next → Turns (hand_read s.types word h)
    turn_at_read part at =
        let past = hand_fits.past_serial in
        let place = hand_fits.place in
        let traced : is_traced_role (role_in s.types hand_fits.body (h.next - 2)) ≡ true = ap is_traced_role role_is ∙ hand_fits.at_hand in
        let refer = traced_refers (role_in s.types hand_fits.body (h.next - 2)) traced in
        let is : word ≡ word_in hand_fits.body (h.next - 2) = word_is hand_fits.body (h.next - 2) a hand_fits.there refer (omega arith) in
        let names = all_name_bodies hand_fits.body (h.next - 2) hand_fits.there refer in
        elim (cases_eq word 0) [
          | inl null ↦ null_done null is
          | inr some ↦
              (let some_in : 0 < word_in hand_fits.body (h.next - 2) = omega (arith, is) in
              let target : is_place s.mutator.bodies (word - 1) ≡ true =
              ap (λ w. is_place s.mutator.bodies (w - 1)) is ∙ named s.mutator.bodies (word_in hand_fits.body (h.next - 2)) names some_in
              in
              elim (traced_cases (role_at_hand s.types h) hand_fits.at_hand) [
                | inl strong ↦ inr (
                  Mark (word - 1),
                  after_some (Mark (word - 1)) some (ap (λ r. part_found r h.part (word - 1)) strong),
                  of_body (λ b. Fits b (Mark (word - 1)))
                      (target, inl (ap (λ r. marking_word r hand_fits.body (h.next - 2)) strong ∙ omega (arith, is))),
                  λ t loaded.
                      let same : word - 1 ≡ t = same_mark (word - 1) t loaded in
                      ap (holds s.mutator.may) (sym same ∙ omega (arith, is))
                      ∙ (ok.may_is_closed on).closed.strong hand_fits.body (h.next - 2) hand_fits.there body_in_may (role_is ∙ strong) some_in,
                )
                | inr key ↦ inr (
                  Key (word - 1),
                  after_some (Key (word - 1)) some
                      (ap (λ r. part_found r h.part (word - 1)) key ∙ ap (λ p. part_found KeyWord p (word - 1)) part),
                  of_body (λ b. Fits b (Key (word - 1))) (target, key, inl (omega (arith, is))),
                  λ t loaded. absurd (key_or_mark (word - 1) t loaded),
                )
              ])
        ]

    -- the value of the pair is read
    turn_at_value : h.part ≡ Value → a ≡ h.place + h.next + 1 → Turns (hand_read s.types word h)
    turn_at_value part at =
        let past = hand_fits.past_serial in
        let place = hand_fits.place in
        let i = h.next - 2 in
        let fits : Fits hand_fits.body Value = subst (Fits hand_fits.body) part hand_fits.part in
        let role : role_in s.types hand_fits.body i ≡ KeyWord = role_is ∙ fits.0 in
        let refer : refers (role_in s.types hand_fits.body (i + 1)) ≡ true =
        ap refers (value_after_key (kinds_of_type s.types hand_fits.body.ty) i role)
        in
        let is : word ≡ word_in hand_fits.body (i + 1) = word_is hand_fits.body (i + 1) a hand_fits.there refer (omega arith) in
        let names = all_name_bodies hand_fits.body (i + 1) hand_fits.there refer in
        elim (cases_eq word 0) [
          | inl null ↦ inl (
            after_null null,
            λ b j there at next. (
              λ strong. absurd (strong_or_key
                  (sym strong ∙ of_body (λ c. role_in s.types c j ≡ KeyWord)
                  (ap (role_in s.types hand_fits.body) (let k : j ≡ i = omega arith in k) ∙ role) b there at)),
              λ key. inr (inl (inl
                  (of_body (λ c. word_in c (j + 1) ≡ 0)
                  (ap (word_in hand_fits.body) (let k : j + 1 ≡ i + 1 = omega arith in k) ∙ sym is ∙ null) b there at))),
            ),
          )
          | inr some ↦
              (let some_in : 0 < word_in hand_fits.body (i + 1) = omega (arith, is) in
              let target : is_place s.mutator.bodies (word - 1) ≡ true =
              ap (λ w. is_place s.mutator.bodies (w - 1)) is ∙ named s.mutator.bodies (word_in hand_fits.body (i + 1)) names some_in
              in
              let may = ok.may_is_closed on in
              let kept : holds s.mutator.may (word_in hand_fits.body (i + 1) - 1) ≡ true = elim fits.1 [
                | inl null ↦ may.values hand_fits.body i hand_fits.there body_in_may role null some_in
                | inr member ↦ elim (cases_eq (word_in hand_fits.body i) 0) [
                  | inl null ↦ may.values hand_fits.body i hand_fits.there body_in_may role null some_in
                  | inr key ↦ may.closed.pairs hand_fits.body i hand_fits.there body_in_may role (omega arith) member some_in
                ]
              ] in
              inr (
                Mark (word - 1),
                after_some (Mark (word - 1)) some
                    (ap (λ r. part_found r h.part (word - 1)) fits.0 ∙ ap (λ p. part_found KeyWord p (word - 1)) part),
                of_body (λ b. Fits b (Mark (word - 1)))
                    (target, inl (ap (λ r. marking_word r hand_fits.body i) fits.0 ∙ omega (arith, is))),
                λ t loaded.
                    let same : word - 1 ≡ t = same_mark (word - 1) t loaded in
                    ap (holds s.mutator.may) (sym same ∙ omega (arith, is)) ∙ kept,
              ))
        ]

    read_by : (part : Part) → h.part ≡ part → wants_word h part a ≡ true → Turns (hand_read s.types word h)
    read_by Read e wants = turn_at_read e (eqb-true a (h.place + h.next) wants)
    read_by Value e wants = turn_at_value e (eqb-true a (h.place + h.next + 1) wants)
    read_by (Mark t) e wants = absurd (false≢true wants)
    read_by (Key k) e wants = absurd (false≢true wants)

    pub turn_by_word : wants_word h h.part a ≡ true → Turns (hand_read s.types word h)
    turn_by_word wants = read_by h.part refl wants

    -- the header of the key is looked at; where it has no mark the pair is noted
    turn_at_key : (k : ℕ) → h.part ≡ Key k → a ≡ k → (has_mark word ≡ false → noted h.place h.next) → Turns (hand_looked s.types word h)
    turn_at_key k part at note =
        let past = hand_fits.past_serial in
        let i = h.next - 2 in
        let fits : Fits hand_fits.body (Key k) = subst (Fits hand_fits.body) part hand_fits.part in
        let role : role_in s.types hand_fits.body i ≡ KeyWord = role_is ∙ fits.1 in
        elim (cases_Bool (has_mark word)) [
          | inl marked ↦
              (let key = body_of_place s.mutator.bodies k fits.0 in
              let bit : is_marked s.words key.0.place ≡ true = ap (is_marked s.words) (key.2 ∙ sym at) ∙ marked in
              let counted : 0 < marks_at s.mutator s.markers key.0.place =
              true_is_some (marks_at s.mutator s.markers key.0.place)
              (sym (mark_tells s.words (marks_at s.mutator s.markers) (traces_at s.mutator s.markers) s.mutator.bodies ok.headers_match key.0 key.1) ∙ bit)
              in
              let kept : holds s.mutator.may k ≡ true =
              ap (holds s.mutator.may) (sym key.2) ∙ (ok.may_is_closed on).marked_in key.0.place counted
              in
              inr (
                Value,
                cond-true (has_mark word) (Some (record h { part = Value })) (hand_moved s.types h) marked,
                of_body (λ b. Fits b Value) (
                  fits.1,
                  elim fits.2 [
                    | inl same ↦ inr (ap (holds s.mutator.may) (let e : word_in hand_fits.body i - 1 ≡ k = omega (arith, same) in e) ∙ kept)
                    | inr other ↦ other
                  ],
                ),
                λ t loaded. absurd (value_or_mark t loaded),
              ))
          | inr unmarked ↦ inl (
            cond-false (has_mark word) (Some (record h { part = Value })) (hand_moved s.types h) unmarked,
            λ b j there here next. (
              λ strong. absurd (strong_or_key
                  (sym strong ∙ of_body (λ c. role_in s.types c j ≡ KeyWord)
                  (ap (role_in s.types hand_fits.body) (let e : j ≡ i = omega arith in e) ∙ role) b there here)),
              λ key. inr (inr (subst (λ p. noted p (j + 2)) (sym here) (subst (noted h.place) next (note unmarked)))),
            ),
          )
        ]

    look_by : (part : Part) → h.part ≡ part → wants_key part a ≡ true → (has_mark word ≡ false → noted h.place h.next) → Turns (hand_looked s.types word h)
    look_by (Key k) e wants note = turn_at_key k e (eqb-true a k wants) note
    look_by Read e wants note = absurd (false≢true wants)
    look_by Value e wants note = absurd (false≢true wants)
    look_by (Mark t) e wants note = absurd (false≢true wants)

    pub turn_by_key : wants_key h.part a ≡ true → (has_mark word ≡ false → noted h.place h.next) → Turns (hand_looked s.types word h)
    turn_by_key wants note = look_by h.part refl wants note

    -- the pair that is noted is the one at hand
    pair_of : (part : Part) → h.part ≡ part → wants_key part a ≡ true → IsPairAt s.types s.mutator.bodies h.place h.next
    pair_of (Key k) e wants =
        let fits : Fits hand_fits.body (Key k) = subst (Fits hand_fits.body) e hand_fits.part in
        record {
          body = hand_fits.body;
          there = hand_fits.there;
          place = hand_fits.place;
          past_serial = hand_fits.past_serial;
          key = role_is ∙ fits.1;
        }
    pair_of Read e wants = absurd (false≢true wants)
    pair_of Value e wants = absurd (false≢true wants)
    pair_of (Mark t) e wants = absurd (false≢true wants)

    pub noted_is_pair : wants_key h.part a ≡ true → (p offset : ℕ) → Contains (noted_pair word (Some h)) (p, offset)
        → IsPairAt s.types s.mutator.bodies p offset
    noted_is_pair wants p offset note =
        let same = noted_at_hand word h (p, offset) note in
        subst (λ (q : ℕ × ℕ). IsPairAt s.types s.mutator.bodies q.0 q.1) same (pair_of h.part refl wants)

    -- the word that the hand wants is a reference of its body
    abbrev IsRead : Type 0
    IsRead = (j : ℕ) × (refers (role_in s.types hand_fits.body j) ≡ true) × (word ≡ word_in hand_fits.body j)

    read_of : (part : Part) → h.part ≡ part → wants_word h part a ≡ true → IsRead
    read_of Read e wants =
        let past = hand_fits.past_serial in
        let place = hand_fits.place in
        let at : a ≡ h.place + h.next = eqb-true a (h.place + h.next) wants in
        let refer = traced_refers (role_in s.types hand_fits.body (h.next - 2)) (ap is_traced_role role_is ∙ hand_fits.at_hand) in
        (h.next - 2, refer, word_is hand_fits.body (h.next - 2) a hand_fits.there refer (omega arith))
    read_of Value e wants =
        let past = hand_fits.past_serial in
        let place = hand_fits.place in
        let at : a ≡ h.place + h.next + 1 = eqb-true a (h.place + h.next + 1) wants in
        let fits : Fits hand_fits.body Value = subst (Fits hand_fits.body) e hand_fits.part in
        let refer : refers (role_in s.types hand_fits.body (h.next - 2 + 1)) ≡ true =
        ap refers (value_after_key (kinds_of_type s.types hand_fits.body.ty) (h.next - 2) (role_is ∙ fits.0))
        in
        (h.next - 2 + 1, refer, word_is hand_fits.body (h.next - 2 + 1) a hand_fits.there refer (omega arith))
    read_of (Mark t) e wants = absurd (false≢true wants)
    read_of (Key k) e wants = absurd (false≢true wants)

    -- so it is null or names a body
    pub target_is_place : wants_word h h.part a ≡ true → (word ≡ 0 → ⊥) → is_place s.mutator.bodies (word - 1) ≡ true
    target_is_place wants some =
        let read = read_of h.part refl wants in
        let is = read.2 in
        ap (λ w. is_place s.mutator.bodies (w - 1)) is
        ∙ named s.mutator.bodies (word_in hand_fits.body read.0) (all_name_bodies hand_fits.body read.0 hand_fits.there read.1) (omega (arith, is))
