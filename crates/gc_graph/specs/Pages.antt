-- Which objects share a page.
use Rattle.std.specs.Prelude.{◌≡◌, ℕ, ◌+◌, ◌*◌, ◌<◌, ◌≤◌, true, List}
use Rattle.gc_graph.specs.State.{Node, node_at, is_there, size_of}
use Rattle.gc_graph.specs.Placement.{extent_of, HasWord, bucket_of}

-- the node is there, live or dead, and has a word in the page
pub record IsInPage (page_words : ℕ) (node : Node) (page : ℕ) : Type 0 where
  pub there : is_there node.life ≡ true
  pub word : ℕ
  pub first : page * page_words ≤ word
  pub last : word < (page + 1) * page_words
  pub has : HasWord (extent_of node) word

-- the bucket of its size
abbrev pub bucket_of_node : ℕ → Node → ℕ
bucket_of_node page_words node = bucket_of page_words (size_of node)

-- pages are pure: nodes with a word in one page are of one bucket, and a large one shares its pages with no other
pub record ArePure (page_words : ℕ) (nodes : List Node) : Type 0 where
  pub one_bucket :
      (page m n : ℕ) → IsInPage page_words (node_at nodes m) page → IsInPage page_words (node_at nodes n) page
      → bucket_of_node page_words (node_at nodes m) ≡ bucket_of_node page_words (node_at nodes n)
  pub alone :
      (page m n : ℕ) → IsInPage page_words (node_at nodes m) page → IsInPage page_words (node_at nodes n) page
      → bucket_of_node page_words (node_at nodes m) ≡ 4 → m ≡ n
