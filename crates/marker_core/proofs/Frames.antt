-- What stays when one word is written.
use Rattle.std.proofs.Common.{◌≡◌, ℕ, ◌+◌, ◌%◌, ◌<◌, ◌≤◌, List, length, get_or, set, true, false, ltb, sym, ap, ◌∙◌, inl, inr, arith, Contains}
use Rattle.std.proofs.lemmas.Bool.{cases_eq}
use Rattle.std.proofs.lemmas.List.{length-set, get_or-set_same, get_or-set_other}
use Rattle.gc_graph.specs.declared.kind.Kind.{Kind}
use Rattle.object_headers.specs.Layout.{header_word}
use Rattle.marker_core.specs.declared.states.Body.{Body}
use Rattle.marker_core.specs.Layout.{bitmap_at, stop_at, bit_is_set}
use Rattle.marker_core.specs.Bodies.{in_body}
use Rattle.marker_core.specs.Matching.{HasRoom, AreWhole, LieApart, HeadersMatch, SerialsMatch, StartsMatch, FieldsMatch, FilledMatch}
use Rattle.marker_core.proofs.Apart.{two_words, same_offset, outside_body}

pub room_kept : (count : ℕ) (words : List ℕ) (a w : ℕ) → HasRoom count words → HasRoom count (set words a w)
room_kept count words a w room = record { small = room.small; bits = room.bits; length_is = length-set words a w ∙ room.length_is }

pub within_words : (count : ℕ) (words : List ℕ) (a : ℕ) → HasRoom count words → a < count → a < length words
within_words count words a room below = omega (arith, room.length_is)

pub stop_kept : (count : ℕ) (words : List ℕ) (a w : ℕ) → a < count → get_or (set words a w) (stop_at count) 0 ≡ get_or words (stop_at count) 0
stop_kept count words a w below = get_or-set_other words a (stop_at count) w 0 (λ e. omega arith)

pub starts_kept : (count : ℕ) (words : List ℕ) (bodies : List Body) (a w : ℕ) → a < count → StartsMatch count words bodies
    → StartsMatch count (set words a w) bodies
starts_kept count words bodies a w below starts p inside =
    ap (λ x. bit_is_set x (p % 64)) (get_or-set_other words a (bitmap_at count p) w 0 (λ e. omega arith)) ∙ starts p inside

-- the words of the bodies after their headers are the same
abbrev pub TailsKept : List ℕ → List ℕ → List Body → Type 0
TailsKept words now bodies =
    (b : Body) (i : ℕ) → Contains bodies b → i + 1 < b.size → get_or now (b.place + 1 + i) 0 ≡ get_or words (b.place + 1 + i) 0

abbrev pub HeadsKept : List ℕ → List ℕ → List Body → Type 0
HeadsKept words now bodies = (b : Body) → Contains bodies b → get_or now b.place 0 ≡ get_or words b.place 0

module _ (count : ℕ) (types : List (List Kind)) (words now : List ℕ) (bodies : List Body) (whole : AreWhole count types bodies) where
  pub headers_kept : (marks traces : ℕ → ℕ) → HeadsKept words now bodies → HeadersMatch words marks traces bodies → HeadersMatch now marks traces bodies
  headers_kept marks traces kept matches b h = kept b h ∙ matches b h

  pub serials_kept : TailsKept words now bodies → SerialsMatch words bodies → SerialsMatch now bodies
  serials_kept kept matches b h =
      let two = two_words count types bodies whole b h in
      ap (λ x. get_or now x 0) (omega arith) ∙ kept b 0 h (omega arith) ∙ ap (λ x. get_or words x 0) (omega arith) ∙ matches b h

  pub fields_kept : TailsKept words now bodies → FieldsMatch words bodies → FieldsMatch now bodies
  fields_kept kept matches b i h l =
      let is = whole b h in
      ap (λ x. get_or now x 0) (omega arith) ∙ kept b (1 + i) h (omega (arith, is.fields)) ∙ ap (λ x. get_or words x 0) (omega arith)
      ∙ matches b i h l

pub filled_kept : (count : ℕ) (words : List ℕ) (bodies : List Body) (filled : List (ℕ × ℕ)) (a w : ℕ) → ((f : ℕ × ℕ) → Contains filled f → (f.0 ≡ a → ⊥))
    → FilledMatch count words bodies filled → FilledMatch count (set words a w) bodies filled
filled_kept count words bodies filled a w other matches = record {
  inside = matches.inside;
  outside = matches.outside;
  word = λ f h. get_or-set_other words a f.0 w 0 (other f h) ∙ matches.word f h;
  once = matches.once;
}

-- ---- a word past the heap is written

module _ (count : ℕ) (types : List (List Kind)) (words : List ℕ) (bodies : List Body) (whole : AreWhole count types bodies) (a w : ℕ) (past : count ≤ a) where
  pub heads_before : HeadsKept words (set words a w) bodies
  heads_before b h =
      let is = whole b h in
      get_or-set_other words a b.place w 0 (λ e. omega (arith, is.inside, is.fields))

  pub tails_before : TailsKept words (set words a w) bodies
  tails_before b i h below =
      let is = whole b h in
      get_or-set_other words a (b.place + 1 + i) w 0 (λ e. omega (arith, is.inside))

-- ---- a word outside the bodies is written

module _ (words : List ℕ) (bodies : List Body) (a w : ℕ) (out : in_body bodies a ≡ false) where
  pub heads_beside : ((b : Body) → Contains bodies b → 2 ≤ b.size) → HeadsKept words (set words a w) bodies
  heads_beside two b h =
      let size = two b h in
      get_or-set_other words a b.place w 0 (λ e. outside_body bodies a b out h 0 (omega arith) (omega arith))

  pub tails_beside : TailsKept words (set words a w) bodies
  tails_beside b i h below =
      get_or-set_other words a (b.place + 1 + i) w 0 (λ e. outside_body bodies a b out h (1 + i) (omega arith) (omega arith))

-- ---- a header is written

abbrev pub HeaderIs : (ℕ → ℕ) → (ℕ → ℕ) → ℕ → Body → Type 0
HeaderIs marks traces w b = w ≡ header_word true (ltb 0 (marks b.place)) (ltb 0 (traces b.place)) b.ty b.size

rewritten : (marks traces marks' traces' : ℕ → ℕ) (b : Body) → marks' b.place ≡ marks b.place → traces' b.place ≡ traces b.place
    → header_word true (ltb 0 (marks b.place)) (ltb 0 (traces b.place)) b.ty b.size
    ≡ header_word true (ltb 0 (marks' b.place)) (ltb 0 (traces' b.place)) b.ty b.size
rewritten marks traces marks' traces' b same_marks same_traces =
    ap (λ n. header_word true (ltb 0 n) (ltb 0 (traces b.place)) b.ty b.size) (sym same_marks)
    ∙ ap (λ n. header_word true (ltb 0 (marks' b.place)) (ltb 0 n) b.ty b.size) (sym same_traces)

module _ (count : ℕ) (types : List (List Kind)) (words : List ℕ) (bodies : List Body) (whole : AreWhole count types bodies) (apart : LieApart bodies) (o : Body) (there : Contains bodies o) (w : ℕ) where
  pub tails_past_header : TailsKept words (set words o.place w) bodies
  tails_past_header b i h below =
      let two = two_words count types bodies whole o there in
      get_or-set_other words o.place (b.place + 1 + i) w 0
      (λ e.
      let off : 1 + i ≡ 0 = same_offset bodies apart b o h there (1 + i) 0 (omega arith) (omega arith) (omega arith) in omega arith)

  -- headers tell other marks at that place alone, and there the word tells them
  pub headers_rewritten : (marks traces marks' traces' : ℕ → ℕ) → o.place < length words → HeadersMatch words marks traces bodies
      → ((x : ℕ) → (x ≡ o.place → ⊥) → (marks' x ≡ marks x) × (traces' x ≡ traces x))
      → ((b : Body) → Contains bodies b → b.place ≡ o.place → HeaderIs marks' traces' w b)
      → HeadersMatch (set words o.place w) marks' traces' bodies
  headers_rewritten marks traces marks' traces' within matches others new b h = elim (cases_eq b.place o.place) [
    | inl same ↦ ap (λ x. get_or (set words o.place w) x 0) same ∙ get_or-set_same words o.place w 0 within ∙ new b h same
    | inr other ↦
        (let kept = others b.place other in
        get_or-set_other words o.place b.place w 0 other ∙ matches b h ∙ rewritten marks traces marks' traces' b kept.0 kept.1)
  ]
