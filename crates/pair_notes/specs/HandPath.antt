-- The way of the hand along the strong words and the pairs of an object.
use Rattle.std.proofs.Common.{◌≡◌, ℕ, zero, suc, ◌+◌, ◌<◌, ◌≤◌, List, [], ◌∷◌, length, get_or, drop, map, Option, Some, None, ltb, refl, sym, ap, ◌∙◌, arith}
use Rattle.std.specs.List.{find}
use Rattle.std.specs.Option.{option_map}
use Rattle.std.proofs.lemmas.Bool.{cond-true, cond-false, lt-ltb, le-ltb}
use Rattle.std.proofs.lemmas.List.{drop_more, drop_all, length-map}
use Rattle.gc_graph.specs.declared.kind.Kind.{Kind}
use Rattle.gc_graph.specs.declared.kind.Kind.TheVariants.{Strong, Weak, Pair, Plain}
use Rattle.gc_graph.specs.State.{ObjectType}
use Rattle.page_words.specs.Hand.{Hand}
use Rattle.page_words.specs.Part.{Part}
use Rattle.page_words.specs.Part.TheVariants.{Read}
use Rattle.page_words.specs.MachineBodies.{kinds_of_type}
use Rattle.page_words.specs.Types.{declared_kinds}
use Rattle.page_words.specs.TracedWords.{traced_words_of, offset_in}
use Rattle.page_words.specs.TracedWord.{TracedWord}
use Rattle.page_words.specs.Hands.{traced_offsets, hand_past, hand_moved, each_hand}
use Rattle.page_words.specs.Roles.{kind_lists, kinds_fit, traced_fit}
use Rattle.page_words.specs.Seat.{SeatView}
use Rattle.pair_notes.specs.InHand.{IsPast, hand_over, traced_in, moved_on}

-- the hand at the first of these offsets past another
abbrev found : ℕ → ℕ → ℕ → List ℕ → Option Hand
found place ty past offsets =
    option_map (λ next. record { place = place; ty = ty; next = next; part = Read }) (find (λ next. ltb past next) offsets)

-- the first offset is past another
found_first : (place ty past offset : ℕ) (offsets : List ℕ) → past < offset → found place ty past (offset ∷ offsets) ≡ hand_over place ty (offset ∷ offsets)
found_first place ty past offset offsets low =
    ap (option_map (λ next. record { place = place; ty = ty; next = next; part = Read }))
    (cond-true (ltb past offset) (Some offset) (find (λ next. ltb past next) offsets) (lt-ltb past offset low))

-- it isn't
found_later : (place ty past offset : ℕ) (offsets : List ℕ) → offset ≤ past → found place ty past (offset ∷ offsets) ≡ found place ty past offsets
found_later place ty past offset offsets high =
    ap (option_map (λ next. record { place = place; ty = ty; next = next; part = Read }))
    (cond-false (ltb past offset) (Some offset) (find (λ next. ltb past next) offsets) (le-ltb past offset high))

-- all offsets of fields are past one below
past_low : (place ty past offset : ℕ) (kinds : List Kind) → past < offset
    → found place ty past (traced_offsets offset kinds) ≡ hand_over place ty (traced_offsets offset kinds)
past_low place ty past offset [] low = refl
past_low place ty past offset (Strong ∷ kinds) low = found_first place ty past offset (traced_offsets (offset + 1) kinds) low
past_low place ty past offset (Weak ∷ kinds) low = past_low place ty past (offset + 1) kinds (omega arith)
past_low place ty past offset (Pair ∷ kinds) low = found_first place ty past offset (traced_offsets (offset + 2) kinds) low
past_low place ty past offset (Plain ∷ kinds) low = past_low place ty past (offset + 1) kinds (omega arith)

none_lower : (offset : ℕ) (kinds : List Kind) (i d : ℕ) → i < length (traced_offsets offset kinds) → offset ≤ get_or (traced_offsets offset kinds) i d
none_lower offset [] i d low = absurd (omega arith)
none_lower offset (Strong ∷ kinds) zero d low = omega arith
none_lower offset (Strong ∷ kinds) (suc i) d low = omega (arith, none_lower (offset + 1) kinds i d (omega arith))
none_lower offset (Weak ∷ kinds) i d low = omega (arith, none_lower (offset + 1) kinds i d low)
none_lower offset (Pair ∷ kinds) zero d low = omega arith
none_lower offset (Pair ∷ kinds) (suc i) d low = omega (arith, none_lower (offset + 2) kinds i d (omega arith))
none_lower offset (Plain ∷ kinds) i d low = omega (arith, none_lower (offset + 1) kinds i d low)

-- the hand past one of the others, where a first offset stands before them
found_after : (place ty first i d : ℕ) (rest : List ℕ) → first ≤ get_or rest i d → found place ty (get_or rest i d) rest ≡ hand_over place ty (drop (i + 1) rest)
    → found place ty (get_or rest i d) (first ∷ rest) ≡ hand_over place ty (drop (suc i + 1) (first ∷ rest))
found_after place ty first i d rest high later =
    let more : suc i + 1 ≡ suc (i + 1) = omega arith in
    found_later place ty (get_or rest i d) first rest high ∙ later ∙ ap (λ n. hand_over place ty (drop n (first ∷ rest))) (sym more)

-- past each offset comes the next one
past_each : (place ty offset : ℕ) (kinds : List Kind) (i d : ℕ) → i < length (traced_offsets offset kinds)
    → found place ty (get_or (traced_offsets offset kinds) i d) (traced_offsets offset kinds) ≡ hand_over place ty (drop (i + 1) (traced_offsets offset kinds))
past_each place ty offset [] i d low = absurd (omega arith)
past_each place ty offset (Strong ∷ kinds) zero d low =
    found_later place ty offset offset (traced_offsets (offset + 1) kinds) (omega arith) ∙ past_low place ty offset (offset + 1) kinds (omega arith)
past_each place ty offset (Strong ∷ kinds) (suc i) d low =
    found_after place ty offset i d (traced_offsets (offset + 1) kinds) (omega (arith, none_lower (offset + 1) kinds i d (omega arith)))
    (past_each place ty (offset + 1) kinds i d (omega arith))
past_each place ty offset (Weak ∷ kinds) i d low = past_each place ty (offset + 1) kinds i d low
past_each place ty offset (Pair ∷ kinds) zero d low =
    found_later place ty offset offset (traced_offsets (offset + 2) kinds) (omega arith) ∙ past_low place ty offset (offset + 2) kinds (omega arith)
past_each place ty offset (Pair ∷ kinds) (suc i) d low =
    found_after place ty offset i d (traced_offsets (offset + 2) kinds) (omega (arith, none_lower (offset + 2) kinds i d (omega arith)))
    (past_each place ty (offset + 2) kinds i d (omega arith))
past_each place ty offset (Plain ∷ kinds) i d low = past_each place ty (offset + 1) kinds i d low

-- the offsets rise
pub rising : (offset : ℕ) (kinds : List Kind) (i j d : ℕ) → j < i → i < length (traced_offsets offset kinds)
    → get_or (traced_offsets offset kinds) j d < get_or (traced_offsets offset kinds) i d
rising offset [] i j d before low = absurd (omega arith)
rising offset (Strong ∷ kinds) zero j d before low = absurd (omega arith)
rising offset (Strong ∷ kinds) (suc i) zero d before low = omega (arith, none_lower (offset + 1) kinds i d (omega arith))
rising offset (Strong ∷ kinds) (suc i) (suc j) d before low = rising (offset + 1) kinds i j d (omega arith) (omega arith)
rising offset (Weak ∷ kinds) i j d before low = rising (offset + 1) kinds i j d before low
rising offset (Pair ∷ kinds) zero j d before low = absurd (omega arith)
rising offset (Pair ∷ kinds) (suc i) zero d before low = omega (arith, none_lower (offset + 2) kinds i d (omega arith))
rising offset (Pair ∷ kinds) (suc i) (suc j) d before low = rising (offset + 2) kinds i j d (omega arith) (omega arith)
rising offset (Plain ∷ kinds) i j d before low = rising (offset + 1) kinds i j d before low

-- ---- the hand of an object of a type

-- as a claim leaves it
pub hand_first : (types : List ObjectType) (place ty : ℕ) → hand_past (kind_lists types) place ty 1 ≡ hand_over place ty (traced_in types ty)
hand_first types place ty = past_low place ty 1 2 (kinds_of_type (kind_lists types) ty) (omega arith)

-- at each offset
pub hand_each : (offsets : List ℕ) (place ty i : ℕ) → i < length offsets
    → hand_over place ty (drop i offsets) ≡ Some (record { place = place; ty = ty; next = get_or offsets i 0; part = Read })
hand_each offsets place ty i low = ap (hand_over place ty) (drop_more offsets i 0 low)

-- and once it has moved on, whatever of the word it had come to
pub hand_next : (types : List ObjectType) (place ty i : ℕ) (part : Part) → i < length (traced_in types ty)
    → hand_moved (kind_lists types) (record { place = place; ty = ty; next = get_or (traced_in types ty) i 0; part = part })
    ≡ hand_over place ty (drop (i + 1) (traced_in types ty))
hand_next types place ty i part low = past_each place ty 2 (kinds_of_type (kind_lists types) ty) i 0 low

-- past all of them
pub hand_last : (offsets : List ℕ) (place ty n : ℕ) → length offsets ≤ n → hand_over place ty (drop n offsets) ≡ None
hand_last offsets place ty n past = ap (hand_over place ty) (drop_all n offsets past)

-- ---- the offsets are those of the words that the table of types tells

-- the offsets of a type's strong words and pairs are those of the traced words that the table tells, in their order
pub told_offsets : (types : List ObjectType) (ty : ℕ) (told : List TracedWord) → told ≡ traced_words_of (declared_kinds types ty) → traced_in types ty ≡ map offset_in told
told_offsets types ty told is = ap (traced_offsets 2) (kinds_fit types ty) ∙ sym (traced_fit 2 (declared_kinds types ty)) ∙ ap (map offset_in) (sym is)

-- a type has as many strong words and pairs as the table tells traced words
pub told_length : (types : List ObjectType) (ty : ℕ) (told : List TracedWord) → told ≡ traced_words_of (declared_kinds types ty) → length (traced_in types ty) ≡ length told
told_length types ty told is = ap length (told_offsets types ty told is) ∙ length-map told offset_in

-- ---- of a view, whose objects are of these types

-- as the claim left it
pub hand_at_first : (types : List ObjectType) (v : SeatView) (place ty : ℕ) → v.types ≡ types → IsPast v place ty 1 → v.hand ≡ hand_over place ty (traced_in types ty)
hand_at_first types v place ty known past = past ∙ ap (λ ts. hand_past (kind_lists ts) place ty 1) known ∙ hand_first types place ty

-- at each offset
pub hand_at_each : (offsets : List ℕ) (v : SeatView) (place ty i : ℕ) → i < length offsets → v.hand ≡ hand_over place ty (drop i offsets)
    → v.hand ≡ Some (record { place = place; ty = ty; next = get_or offsets i 0; part = Read })
hand_at_each offsets v place ty i low is = is ∙ hand_each offsets place ty i low

-- and once it has moved on
pub hand_at_next : (types : List ObjectType) (v w : SeatView) (place ty i : ℕ) → v.types ≡ types → i < length (traced_in types ty)
    → v.hand ≡ hand_over place ty (drop i (traced_in types ty)) → w.hand ≡ moved_on v → w.hand ≡ hand_over place ty (drop (i + 1) (traced_in types ty))
hand_at_next types v w place ty i known low is moved =
    moved ∙ ap (λ ts. each_hand (hand_moved (kind_lists ts)) v.hand) known
    ∙ ap (each_hand (hand_moved (kind_lists types))) (hand_at_each (traced_in types ty) v place ty i low is)
    ∙ hand_next types place ty i Read low

-- past all of them
pub hand_at_end : (offsets : List ℕ) (v : SeatView) (place ty n : ℕ) → length offsets ≤ n → v.hand ≡ hand_over place ty (drop n offsets) → v.hand ≡ None
hand_at_end offsets v place ty n past is = is ∙ hand_last offsets place ty n past
