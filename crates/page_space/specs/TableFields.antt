-- What is true of the fields of a page table.
use Rattle.std.specs.Prelude.{◌≡◌, ℕ, ◌<◌, ◌≤◌, length, slice_index}
use Rattle.page_space.specs.Pages.{count_in_use}
use Rattle.page_space.specs.declared.table.Table.TheInside.{Inside}

-- each page has its count of objects, its bucket and its first page, the pages with an object are counted, those below
-- the lowest that may have none are among these, and those from the top on are not
pub record IsTable (t : Inside) : Type 0 where
  pub in_use : t.in_use ≡ count_in_use t.objects.items
  pub buckets : length t.buckets.items ≡ length t.objects.items
  pub starts : length t.starts.items ≡ length t.objects.items
  pub few : length t.objects.items ≤ 1024
  pub lowest : t.lowest_empty ≤ length t.objects.items
  pub below : (page : ℕ) → page < t.lowest_empty → 0 < slice_index t.objects.items page
  pub top : t.top ≤ length t.objects.items
  pub above : (page : ℕ) → t.top ≤ page → slice_index t.objects.items page ≡ 0
