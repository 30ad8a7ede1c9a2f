-- The pages of a heap: the objects with a word in each, and what a table tells of them.
use Rattle.std.specs.Prelude.{ℕ, zero, suc, ◌+◌, ◌-◌, ◌/◌, ◌&&◌, nat_lt, nat_le, Bool, List, if◌then◌else◌, count_by}
use Rattle.std.specs.List.{list_any}
use Rattle.gc_graph.specs.Placement.{Extent}
pub use Rattle.gc_graph.specs.Valid.{word_count}
pub use Rattle.gap_bounds.specs.Gaps.{is_between}

-- the page of an object's first word
abbrev pub first_page : ℕ → Extent → ℕ
first_page page_words e = e.place / page_words

-- the page after that of its last word
abbrev pub page_after : ℕ → Extent → ℕ
page_after page_words e = (e.place + e.size - 1) / page_words + 1

-- the object has a word in the page
abbrev pub is_in_page : ℕ → ℕ → Extent → Bool
is_in_page page_words page e = is_between (first_page page_words e) (page_after page_words e) page

-- for each page, how many objects have a word in it, the bucket of these, and the page in which they start
pub record PageTable : Type 0 where
  pub objects : List ℕ
  pub buckets : List ℕ
  pub starts : List ℕ

-- how many pages some object has a word in
abbrev pub count_in_use : List ℕ → ℕ
count_in_use objects = count_by (λ n. nat_lt 0 n) objects

-- the word at a belongs to the object
abbrev pub covers : ℕ → Extent → Bool
covers a e = nat_le e.place a && nat_lt a (e.place + e.size)

-- how many of the first n words belong to no object
abbrev pub free_words : List Extent → ℕ → ℕ
free_words extents zero = 0
free_words extents (suc n) = free_words extents n + (if list_any (covers n) extents then 0 else 1)
