-- The rank of words: the number of the lowest reason that they give, or 9 where they give none.
use Rattle.std.specs.Prelude.{ℕ, ◌==◌, ◌&&◌, ◌||◌, nat_le, nat_lt, min, Bool, false, List, [], ◌∷◌, Option, Some, None, if◌then◌else◌}
use Rattle.gc_graph.specs.Forms.{Place, Form}
use Rattle.gc_graph.specs.Reasons.{Reason, Bounds, is_unknown, is_bad, is_outside, is_half_null, has_unknown_word, has_bad_number, has_other_count, has_outside, has_too_many}
use Rattle.gc_graph.specs.Reasons.Reason.{UnknownWord, BadNumber, Count, Range}

-- the lowest rank, where there is an unknown word, no number, another count or a number out of its range
abbrev pub rank_by : Bool → Bool → Bool → Bool → ℕ
rank_by unknown bad count outside =
    if unknown then 2 else if bad then 3 else if count then 4 else if outside then 5 else 9

-- the rank of a word at its place
abbrev pub rank_at : Bounds → Place → List ℕ → ℕ
rank_at bounds place word = rank_by (is_unknown place word) (is_bad place word) false (is_outside bounds place word)

-- the rank of a word that is this number, or none, where one from the first on and below the second stands
abbrev pub number_rank : ℕ → ℕ → Option ℕ → ℕ
number_rank from limit None = 3
number_rank from limit (Some value) = if nat_le from value && nat_lt value limit then 9 else 5

-- the lowest rank of the words that are there, each at its place
abbrev pub lowest : Bounds → List Place → List (List ℕ) → ℕ
lowest bounds [] words = 9
lowest bounds (place ∷ places) [] = 9
lowest bounds (place ∷ places) (word ∷ words) = min (rank_at bounds place word) (lowest bounds places words)

-- the rank of so many words for so many places
abbrev pub count_rank : ℕ → ℕ → ℕ
count_rank words places = if words == places then 9 else 4

-- the rank of a pair, of which one may be null
abbrev pub half_rank : List (List ℕ) → ℕ
half_rank words = if is_half_null words then 3 else 9

-- the rank of a type line by its number of callbacks and the types before it
abbrev pub many_rank : Bounds → List (List ℕ) → ℕ
many_rank bounds words = if has_too_many bounds words then 5 else 9

-- the rank of the words of a line by the form that they choose
abbrev pub form_rank : Bounds → Form → List (List ℕ) → ℕ
form_rank bounds form words =
    rank_by (has_unknown_word form words) (has_bad_number form words) (has_other_count form words)
    (has_outside bounds form words || has_too_many bounds words)

-- the reason of a rank
abbrev pub reason_ranked : ℕ → Option Reason
reason_ranked rank =
    if rank == 2 then Some UnknownWord
    else if rank == 3 then Some BadNumber
    else if rank == 4 then Some Count
    else if rank == 5 then Some Range
    else None
