-- A field word is stored: words and bodies belong together again.
use Rattle.std.proofs.Common.{◌≡◌, ◌≢◌, ℕ, ◌+◌, ◌<◌, ◌≤◌, List, length, get_or, set, map, true, ltb, sym, ap, ◌∙◌, inl, inr, arith, Contains}
use mathlib.Core.Logic.{◌⊎◌}
use Rattle.std.proofs.lemmas.List.{get_or-set_same, get_or-set_other}
use Rattle.object_headers.specs.Layout.{header_word}
use Rattle.marker_core.specs.declared.states.Body.{Body}
use Rattle.marker_core.specs.declared.states.CoreState.{CoreState}
use Rattle.marker_core.specs.Layout.{stop_at}
use Rattle.marker_core.specs.Bodies.{word_in, has_field, field_number, end_of, with_word}
use Rattle.marker_core.specs.Views.{marks_at, traces_at}
use Rattle.marker_core.specs.Matching.{HasRoom, IsWhole, AreWhole, LieApart, SerialsDiffer, HeadersMatch, SerialsMatch, StartsMatch, FieldsMatch, FilledMatch}
use Rattle.marker_core.specs.Core.{IsCoreOk}
use Rattle.marker_core.proofs.Apart.{two_words, same_body, same_offset, outside_body}
use Rattle.marker_core.proofs.Frames.{room_kept, within_words, stop_kept, starts_kept}
use Rattle.marker_core.proofs.Maps.{all_pairs_map, places_same, in_body_same, each_written, field_low, field_high, fields_length, written_or_kept}

pub record StoredWords (s : CoreState) (words : List ℕ) (bodies : List Body) : Type 0 where
  pub room : HasRoom s.count words
  pub whole : AreWhole s.count s.types bodies
  pub apart : LieApart bodies
  pub differ : SerialsDiffer bodies
  pub headers : HeadersMatch words (marks_at s.mutator s.markers) (traces_at s.mutator s.markers) bodies
  pub serials : SerialsMatch words bodies
  pub starts : StartsMatch s.count words bodies
  pub fields : FieldsMatch words bodies
  pub filled : FilledMatch s.count words bodies s.mutator.filled
  pub stop : get_or words (stop_at s.count) 0 ≡ get_or s.words (stop_at s.count) 0

module _ (s : CoreState) (ok : IsCoreOk s) (a w : ℕ) (o : Body) (there : Contains s.mutator.bodies o) (has : has_field a o ≡ true) where
  abbrev HeaderWord : List ℕ → Body → Type 0
  HeaderWord words b =
      get_or words b.place 0
      ≡ header_word true (ltb 0 (marks_at s.mutator s.markers b.place)) (ltb 0 (traces_at s.mutator s.markers b.place)) b.ty b.size

  abbrev bodies : List Body
  bodies = s.mutator.bodies

  abbrev now : List Body
  now = map (with_word a w) bodies

  low : o.place + 2 ≤ a
  low = field_low a w o has

  high : a < end_of o
  high = field_high a w o has

  below : a < s.count
  below = omega (arith, high, (ok.bodies_are_whole o there).inside)

  -- a word of a body at that address is the field word of that body
  pub hit : (b : Body) (i : ℕ) → Contains bodies b → i < b.size → b.place + i ≡ a → (b ≡ o) × (i ≡ 2 + field_number a o)
  hit b i h within e =
      let l = low in
      let u = high in (
        same_body bodies ok.bodies_lie_apart b o h there i (2 + field_number a o) within (omega arith) (omega arith),
        same_offset bodies ok.bodies_lie_apart b o h there i (2 + field_number a o) within (omega arith) (omega arith),
      )

  early_kept : (b : Body) (i : ℕ) → Contains bodies b → i < 2 → get_or (set s.words a w) (b.place + i) 0 ≡ get_or s.words (b.place + i) 0
  early_kept b i h small =
      let two = two_words s.count s.types bodies ok.bodies_are_whole b h in
      get_or-set_other s.words a (b.place + i) w 0 (λ e. let at = (hit b i h (omega arith) e).1 in omega arith)

  field_matches : (b : Body) (i : ℕ) → Contains bodies b → i < length (with_word a w b).fields
      → get_or (set s.words a w) (b.place + 2 + i) 0 ≡ word_in (with_word a w b) i
  field_matches b i h within =
      let size = (ok.bodies_are_whole b h).fields in
      let inside : i < length b.fields = omega (arith, fields_length a w b) in
      elim (written_or_kept a w b i size) [
        | inl new ↦
            ap (λ x. get_or (set s.words a w) x 0) new.1 ∙ get_or-set_same s.words a w 0 (within_words s.count s.words a ok.has_room below)
            ∙ sym new.2
        | inr kept ↦
            get_or-set_other s.words a (b.place + 2 + i) w 0 (kept.1 inside) ∙ ok.fields_match b i h inside ∙ sym kept.0
      ]

  pub stored_words : StoredWords s (set s.words a w) now
  stored_words =
      let l = low in
      let u = high in
      record {
        room = room_kept s.count s.words a w ok.has_room;
        whole = each_written a w (IsWhole s.count s.types) bodies (λ b h.
            let is = ok.bodies_are_whole b h in
            record { ty = is.ty; room = is.room; size = is.size; inside = is.inside; fields = omega (arith, fields_length a w b, is.fields) });
        apart =
            all_pairs_map (λ (b c : Body). (end_of b ≤ c.place) ⊎ (end_of c ≤ b.place)) (with_word a w) bodies (λ b c r. r) ok.bodies_lie_apart;
        differ = all_pairs_map (λ (b c : Body). b.serial ≢ c.serial) (with_word a w) bodies (λ b c r. r) ok.serials_differ;
        headers = each_written a w (HeaderWord (set s.words a w)) bodies (λ b h.
            ap (λ x. get_or (set s.words a w) x 0) (omega arith) ∙ early_kept b 0 h (omega arith) ∙ ap (λ x. get_or s.words x 0) (omega arith)
            ∙ ok.headers_match b h);
        serials = each_written a w (λ c. get_or (set s.words a w) (c.place + 1) 0 ≡ c.serial) bodies (λ b h.
            early_kept b 1 h (omega arith) ∙ ok.serials_match b h);
        starts = λ p inside. starts_kept s.count s.words bodies a w below ok.starts_match p inside ∙ sym (places_same a w bodies p);
        fields = λ c i h. each_written a w (λ d. i < length d.fields → get_or (set s.words a w) (d.place + 2 + i) 0 ≡ word_in d i) bodies
            (λ b hb. field_matches b i hb) c h;
        filled = record {
          inside = ok.filled_match.inside;
          outside = λ f h. in_body_same a w bodies f.0 ∙ ok.filled_match.outside f h;
          word = λ f h.
              get_or-set_other s.words a f.0 w 0
              (λ e. outside_body bodies f.0 o (ok.filled_match.outside f h) there (2 + field_number a o) (omega arith) (omega arith))
              ∙ ok.filled_match.word f h;
          once = ok.filled_match.once;
        };
        stop = stop_kept s.count s.words a w below;
      }
