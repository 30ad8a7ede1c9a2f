use Rattle.std.proofs.Common.{◌≡◌, ℕ, ◌+◌, length, get_or, cond}
use Rattle.page_space.specs.Pages.{is_between}
use Rattle.page_space.proofs.table.Table.enter.Given as goal

abbrev pub invariant-loop-page : goal.invariant-loop-page
invariant-loop-page l = record {
  size : length l.self.objects ≡ length l.fn.self.objects;
  sizes : length l.self.buckets ≡ length l.fn.self.buckets;
  rows : length l.self.starts ≡ length l.fn.self.starts;
  objects : (page : ℕ) → get_or l.self.objects page 0 ≡ get_or l.fn.self.objects page 0 + cond (is_between l.first l.page page) 1 0;
  buckets : (page : ℕ) → get_or l.self.buckets page 0 ≡ cond (is_between l.first l.page page) l.bucket (get_or l.fn.self.buckets page 0);
  starts : (page : ℕ) → get_or l.self.starts page 0 ≡ cond (is_between l.first l.page page) l.first (get_or l.fn.self.starts page 0);
}
