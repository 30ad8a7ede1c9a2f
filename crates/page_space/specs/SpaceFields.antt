-- What is true of the fields of a space.
use Rattle.std.specs.Prelude.{◌≡◌, ◌*◌, length}
use Rattle.gc_graph.specs.State.{Shape}
use Rattle.gc_graph.specs.Shapes.{IsShape}
use Rattle.std.specs.Arc.{arc_value}
use Rattle.gap_bounds.specs.Seat.{block_words}
use Rattle.page_space.specs.Pages.{word_count}
use Rattle.page_space.specs.declared.space.Space.TheInside.{Inside}

-- the shape of the pages
abbrev pub shape_of : Inside → Shape
shape_of s = record { pages = s.pages; page_words = s.page_words }

-- the shape is one that a heap can have, the words are those of its pages, and each page has its row in the table and
-- its bound, and each block has its bound
pub record IsSpace (s : Inside) : Type 0 where
  pub shape : IsShape (shape_of s)
  pub words : arc_value s.words ≡ record { count = word_count (shape_of s); table = (arc_value s.words).table }
  pub objects : length s.table.objects ≡ s.pages
  pub buckets : length s.table.buckets ≡ s.pages
  pub starts : length s.table.starts ≡ s.pages
  pub gaps : length s.gaps.most ≡ s.pages
  pub blocks : block_words * length s.gaps.bounds ≡ word_count (shape_of s)
