-- An object is published: what is true of every state stays.
use Rattle.std.proofs.Common.{◌≡◌, ◌≢◌, ℕ, ◌+◌, ◌-◌, ◌<◌, ◌≤◌, List, [], ◌∷◌, ◌++◌, length, get_or, Bool, true, false, not, ◌||◌, eqb, ltb, refl, sym, ap, ◌∙◌, subst, inl, inr, arith, Contains}
use mathlib.Core.Logic.{◌⊎◌, ◌↔◌}
use Rattle.std.proofs.lemmas.Bool.{cases_Bool, cases_eq, both_ways, not-true, or_cases, or_left, or_right, eq-eqb, ne_eqb, cond-true, cond-false, false_from_ne_true}
use Rattle.std.proofs.lemmas.List.Elements.{Contains-append_left, Contains-push, Contains-push_cases, Contains-get_or}
use Rattle.std.proofs.lemmas.List.Folds.{list_any-append}
use Rattle.std.proofs.lemmas.List.Kept.{AllPairs-filter}
use Rattle.std.proofs.lemmas.List.Quantifiers.{all_pairs_push}
use Rattle.object_headers.specs.Layout.{header_word}
use Rattle.marker_core.specs.declared.states.Body.{Body}
use Rattle.marker_core.specs.declared.states.CoreState.{CoreState}
use Rattle.marker_core.specs.declared.states.Role.TheVariants.{StrongWord, KeyWord}
use Rattle.marker_core.specs.Layout.{is_start}
use Rattle.marker_core.specs.Bodies.{kinds_of_type, refers, word_in, role_in, end_of, body_has_word, is_place, in_body, names_body, holds}
use Rattle.marker_core.specs.MutatorSteps.{body_at, can_publish, core_published}
use Rattle.marker_core.specs.Views.{marks_at, traces_at, IsHand, IsHeaderRead}
use Rattle.marker_core.specs.Matching.{IsWhole}
use Rattle.marker_core.specs.Tracing.{MayIsClosed}
use Rattle.marker_core.specs.Core.{IsCoreOk}
use Rattle.marker_core.proofs.Members.{none_from, holds_more, holds_push_cases}
use Rattle.gc_graph.specs.Members.{any_from, was_in, has_passed, pushed_is_held}
use Rattle.marker_core.proofs.Apart.{place_of_body, named}
use Rattle.marker_core.proofs.Counts.{none_is_false}
use Rattle.marker_core.specs.RoleOrder.{value_after_key}
use Rattle.marker_core.proofs.Turns.{all_name_bodies}
use Rattle.marker_core.proofs.Tricolour.{pair_among_more, fits_among_more}
use Rattle.marker_core.proofs.StartBits.{Besides, bitmap_written, start_is_set, other_start_set}
use Rattle.marker_core.proofs.Published.{header_tells, new_is_whole, new_field, new_null, apart_from_new, serial_differs, no_place_yet, a_below, two}

or_false : (t : Bool) → (t || (false || false)) ≡ t
or_false true = refl
or_false false = refl

module _ (s : CoreState) (ok : IsCoreOk s) (a : ℕ) (can : can_publish s a ≡ true) where
  abbrev fresh : Body
  fresh = body_at s.words a

  abbrev bodies : List Body
  bodies = s.mutator.bodies

  abbrev now : List Body
  now = bodies ++ fresh ∷ []

  abbrev marks : ℕ → ℕ
  marks = marks_at s.mutator s.markers

  abbrev traces : ℕ → ℕ
  traces = traces_at s.mutator s.markers

  abbrev may : List ℕ
  may = (core_published s a).mutator.may

  -- what is true of the old bodies and of the new one is true of each
  each_body : (P : Body → Type 0) → ((b : Body) → Contains bodies b → P b) → P fresh → (c : Body) → Contains now c → P c
  each_body P old own c h = elim (Contains-push_cases bodies fresh c h) [ inl was ↦ old c was | inr same ↦ subst P same own ]

  kept_there : (b : Body) → Contains bodies b → Contains now b
  kept_there b there = Contains-append_left bodies (fresh ∷ []) b there

  -- ---- places

  place_is : (x : ℕ) → is_place now x ≡ (is_place bodies x || (eqb a x || false))
  place_is x = list_any-append (λ (b : Body). eqb b.place x) bodies (fresh ∷ [])

  place_stays : (x : ℕ) → is_place bodies x ≡ true → is_place now x ≡ true
  place_stays x at = place_is x ∙ or_left (is_place bodies x) (eqb a x || false) at

  place_here : is_place now a ≡ true
  place_here = place_of_body now fresh a (Contains-push bodies fresh) refl

  place_same : (x : ℕ) → (x ≡ a → ⊥) → is_place now x ≡ is_place bodies x
  place_same x other = place_is x ∙ ap (λ t. is_place bodies x || (t || false)) (ne_eqb a x (λ e. other (sym e))) ∙ or_false (is_place bodies x)

  names_stay : (w : ℕ) → names_body bodies w ≡ true → names_body now w ≡ true
  names_stay w names = elim (or_cases (eqb w 0) (is_place bodies (w - 1)) names) [
    | inl null ↦ or_left (eqb w 0) (is_place now (w - 1)) null
    | inr at ↦ or_right (eqb w 0) (is_place now (w - 1)) (place_stays (w - 1) at)
  ]

  unmarked : marks a ≡ 0
  unmarked = elim (cases_eq (marks a) 0) [
    | inl none ↦ none
    | inr some ↦ absurd (no_place_yet s ok a can (ok.marks_counted_once.are_bodies a (omega arith)))
  ]

  untraced : traces a ≡ 0
  untraced = let none = unmarked in omega (arith, ok.traced_are_marked a)

  -- a body that was there is elsewhere
  elsewhere : (b : Body) → Contains bodies b → (b.place ≡ a → ⊥)
  elsewhere b h same = no_place_yet s ok a can (place_of_body bodies b a h same)

  -- ---- what may be kept

  may_grows : (x : ℕ) → holds s.mutator.may x ≡ true → holds may x ≡ true
  may_grows x member = elim (cases_Bool s.mutator.on) [
    | inl on ↦
        ap (λ l. holds l x) (cond-true s.mutator.on (s.mutator.may ++ a ∷ []) s.mutator.may on)
        ∙ holds_more s.mutator.may (a ∷ []) x member
    | inr off ↦ ap (λ l. holds l x) (cond-false s.mutator.on (s.mutator.may ++ a ∷ []) s.mutator.may off) ∙ member
  ]

  module _ (on : s.mutator.on ≡ true) where
    may_is : may ≡ s.mutator.may ++ a ∷ []
    may_is = cond-true s.mutator.on (s.mutator.may ++ a ∷ []) s.mutator.may on

    may_cases : (x : ℕ) → holds may x ≡ true → (x ≡ a) ⊎ (holds s.mutator.may x ≡ true)
    may_cases x member = holds_push_cases s.mutator.may a x (ap (λ l. holds l x) (sym may_is) ∙ member)

    may_was : (b : Body) → Contains bodies b → holds may b.place ≡ true → holds s.mutator.may b.place ≡ true
    may_was b h member = elim (may_cases b.place member) [ inl same ↦ absurd (elsewhere b h same) | inr was ↦ was ]

    -- what an old body names is an old body's place
    target_was : (b : Body) (i : ℕ) → Contains bodies b → refers (role_in s.types b i) ≡ true → 0 < word_in b i → holds may (word_in b i - 1) ≡ true
        → holds s.mutator.may (word_in b i - 1) ≡ true
    target_was b i h r some member = elim (may_cases (word_in b i - 1) member) [
      | inr was ↦ was
      | inl same ↦
          absurd (no_place_yet s ok a can
          (ap (is_place bodies) (sym same) ∙ named bodies (word_in b i) (all_name_bodies s ok on b i h r) some))
    ]

    may_published : MayIsClosed s.types now marks traces s.mutator.pending may s.mutator.seen (IsHand s.mutator s.markers) (IsHeaderRead s.mutator s.markers)
    may_published =
        let was = ok.may_is_closed on in
        record {
          are_places = λ x member. elim (may_cases x member) [
            | inl same ↦ ap (is_place now) same ∙ place_here
            | inr old ↦ place_stays x (was.are_places x old)
          ];
          closed = record {
            strong = λ c i h. each_body
                (λ d. holds may d.place ≡ true → role_in s.types d i ≡ StrongWord → 0 < word_in d i → holds may (word_in d i - 1) ≡ true)
                (λ b hb member role some. may_grows (word_in b i - 1) (was.closed.strong b i hb (may_was b hb member) role some))
                (λ member role some. absurd (omega (arith, new_null s ok a can i (ap refers role)))) c h;
            pairs = λ c i h. each_body
                (λ d. holds may d.place ≡ true → role_in s.types d i ≡ KeyWord → 0 < word_in d i → holds may (word_in d i - 1) ≡ true
                → 0 < word_in d (i + 1) → holds may (word_in d (i + 1) - 1) ≡ true)
                (λ b hb member role some key value.
                may_grows (word_in b (i + 1) - 1)
                (was.closed.pairs b i hb (may_was b hb member) role some (target_was b i hb (ap refers role) some key) value))
                (λ member role some key value. absurd (omega (arith, new_null s ok a can i (ap refers role)))) c h;
          };
          marked_in = λ x some. may_grows x (was.marked_in x some);
          hands_in = λ h held. may_grows h.place (was.hands_in h held);
          loaded_in = λ h t held loaded. may_grows t (was.loaded_in h t held loaded);
          pending_in = λ t waits. may_grows t (was.pending_in t waits);
          values = λ c i h. each_body
              (λ d. holds may d.place ≡ true → role_in s.types d i ≡ KeyWord → word_in d i ≡ 0 → 0 < word_in d (i + 1)
              → holds may (word_in d (i + 1) - 1) ≡ true)
              (λ b hb member role null value. may_grows (word_in b (i + 1) - 1) (was.values b i hb (may_was b hb member) role null value))
              (λ member role null value.
              absurd (omega (arith, new_null s ok a can (i + 1) (ap refers (value_after_key (kinds_of_type s.types fresh.ty) i role))))) c h;
          others = λ c i h. each_body
              (λ d. holds may d.place ≡ false → role_in s.types d i ≡ KeyWord → (word_in d i ≡ 0) ↔ (word_in d (i + 1) ≡ 0))
              (λ b hb out role.
              was.others b i hb
              (false_from_ne_true (holds s.mutator.may b.place) (λ member. both_ways (holds may b.place) out (may_grows b.place member))) role)
              (λ out role. absurd (both_ways (holds may a) out (ap (λ l. holds l a) may_is ∙ pushed_is_held s.mutator.may a))) c h;
          seen_are_marked = was.seen_are_marked;
          done_are_traced = was.done_are_traced;
        }

  pub published_state : IsCoreOk (core_published s a)
  published_state =
      let below = a_below s ok a can in
      let words : Besides s (core_published s a).words = bitmap_written s ok a _ below in
      let size = two s ok a can in
      let whole = new_is_whole s ok a can in
      record {
        are_types = ok.are_types;
        has_room = words.room;
        bodies_are_whole = each_body (IsWhole s.count s.types) ok.bodies_are_whole whole;
        bodies_lie_apart =
            all_pairs_push (λ (b c : Body). (end_of b ≤ c.place) ⊎ (end_of c ≤ b.place)) bodies fresh ok.bodies_lie_apart
            (λ k d l. apart_from_new s ok a can (get_or bodies k d) (Contains-get_or bodies k d l));
        serials_differ =
            all_pairs_push (λ (b c : Body). b.serial ≢ c.serial) bodies fresh ok.serials_differ
            (λ k d l. serial_differs s ok a can (get_or bodies k d) (Contains-get_or bodies k d l));
        headers_match = each_body
            (λ c. get_or (core_published s a).words c.place 0 ≡ header_word true (ltb 0 (marks c.place)) (ltb 0 (traces c.place)) c.ty c.size)
            words.headers
            (words.heap a below ∙ header_tells s ok a can
            ∙ ap (λ m. header_word true m false fresh.ty fresh.size) (sym (none_is_false (marks a) unmarked))
            ∙ ap (λ t. header_word true (ltb 0 (marks a)) t fresh.ty fresh.size) (sym (none_is_false (traces a) untraced)));
        serials_match = each_body (λ c. get_or (core_published s a).words (c.place + 1) 0 ≡ c.serial) words.serials
            (words.heap (a + 1) (omega (arith, whole.inside)));
        starts_match = λ p inside. elim (cases_eq p a) [
          | inl same ↦
              subst (λ x. is_start s.count (core_published s a).words x ≡ is_place now x) (sym same)
              (start_is_set s ok a below ∙ sym place_here)
          | inr other ↦ other_start_set s ok a below p other ∙ ok.starts_match p inside ∙ sym (place_same p other)
        ];
        fields_match = λ c i h. each_body (λ d. i < length d.fields → get_or (core_published s a).words (d.place + 2 + i) 0 ≡ word_in d i)
            (λ b hb. words.fields b i hb)
            (λ l. words.heap (a + 2 + i) (omega (arith, whole.inside, whole.fields)) ∙ new_field s ok a can i l) c h;
        filled_match = record {
          inside = λ f h. words.filled.inside f (was_in (λ (g : ℕ × ℕ). not (body_has_word g.0 fresh)) s.mutator.filled f h);
          outside = λ f h. none_from (body_has_word f.0) now (λ c hc has.
              elim (Contains-push_cases bodies fresh c hc) [
                | inl was ↦
                    both_ways (in_body bodies f.0)
                    (words.filled.outside f (was_in (λ (g : ℕ × ℕ). not (body_has_word g.0 fresh)) s.mutator.filled f h))
                    (any_from (body_has_word f.0) bodies c was has)
                | inr same ↦
                    both_ways (body_has_word f.0 fresh)
                    (not-true (body_has_word f.0 fresh) (has_passed (λ (g : ℕ × ℕ). not (body_has_word g.0 fresh)) s.mutator.filled f h))
                    (ap (body_has_word f.0) same ∙ has)
              ]);
          word = λ f h. words.filled.word f (was_in (λ (g : ℕ × ℕ). not (body_has_word g.0 fresh)) s.mutator.filled f h);
          once = AllPairs-filter (λ (f g : ℕ × ℕ). f.0 ≢ g.0) (λ (g : ℕ × ℕ). not (body_has_word g.0 fresh)) s.mutator.filled words.filled.once;
        };
        references_name_bodies = λ c i h. each_body
            (λ d. holds s.mutator.dead d.place ≡ false → refers (role_in s.types d i) ≡ true → names_body now (word_in d i) ≡ true)
            (λ b hb alive r. names_stay (word_in b i) (ok.references_name_bodies b i hb alive r))
            (λ alive r. or_left (eqb (word_in fresh i) 0) (is_place now (word_in fresh i - 1)) (eq-eqb (word_in fresh i) 0 (new_null s ok a can i r))) c h;
        quiet_while_off = record {
          no_pending = ok.quiet_while_off.no_pending;
          no_hand = ok.quiet_while_off.no_hand;
          no_views = ok.quiet_while_off.no_views;
          no_dead = ok.quiet_while_off.no_dead;
          lent_views = ok.quiet_while_off.lent_views;
          spent_views = ok.quiet_while_off.spent_views;
          halted_views = λ v h halted. words.stop ∙ ok.quiet_while_off.halted_views v h halted;
        };
        traced_are_marked = ok.traced_are_marked;
        marks_counted_once = record {
          once = ok.marks_counted_once.once;
          are_bodies = λ x some. place_stays x (ok.marks_counted_once.are_bodies x some);
          dead_are_unmarked = λ x dead.
              let was = ok.marks_counted_once.dead_are_unmarked x dead in (place_stays x was.0, was.1);
        };
        strong_targets_accounted = λ on c i h traced role. elim (Contains-push_cases bodies fresh c h) [
          | inl was ↦ ok.strong_targets_accounted on c i was traced role
          | inr same ↦ (let none : traces c.place ≡ 0 = ap (λ (d : Body). traces d.place) (sym same) ∙ untraced in absurd (omega arith))
        ];
        pairs_accounted = λ on c i h traced role. elim (Contains-push_cases bodies fresh c h) [
          | inl was ↦ ok.pairs_accounted on c i was traced role
          | inr same ↦ (let none : traces c.place ≡ 0 = ap (λ (d : Body). traces d.place) (sym same) ∙ untraced in absurd (omega arith))
        ];
        noted_are_pairs = λ on p offset note. pair_among_more bodies now kept_there s.types p offset (ok.noted_are_pairs on p offset note);
        hands_are_bodies = record {
          known = λ v x h known. place_stays x (ok.hands_are_bodies.known v x h known);
          hands = λ h held.
              fits_among_more bodies now marks s.mutator.pending s.mutator.may may place_stays may_grows s.types h
              kept_there (ok.hands_are_bodies.hands h held);
        };
        may_is_closed = may_published;
      }

pub publish_ok : (s : CoreState) → IsCoreOk s → (a : ℕ) → can_publish s a ≡ true → IsCoreOk (core_published s a)
publish_ok s ok a can = published_state s ok a can
