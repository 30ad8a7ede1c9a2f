-- The shapes that a heap can have.
use Rattle.std.specs.Prelude.{◌≡◌, ℕ, ◌≤◌, ◌==◌, [], ◌∷◌, true}
use Rattle.std.specs.List.{list_any}
use Rattle.gc_graph.specs.State.{Shape}

-- a page has a power of two from 256 to 16,384 words
abbrev pub IsPageWords : ℕ → Type 0
IsPageWords page_words = list_any (λ n. n == page_words) (256 ∷ 512 ∷ 1024 ∷ 2048 ∷ 4096 ∷ 8192 ∷ 16384 ∷ []) ≡ true

-- from 1 to 1,024 pages
pub record IsShape (shape : Shape) : Type 0 where
  pub some : 1 ≤ shape.pages
  pub most : shape.pages ≤ 1024
  pub power : IsPageWords shape.page_words
