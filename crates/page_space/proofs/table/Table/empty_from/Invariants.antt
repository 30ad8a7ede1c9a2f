use Rattle.std.proofs.Common.{◌-◌, ℕ, ◌<◌, ◌≤◌, get_or}
use Rattle.page_space.proofs.table.Table.empty_from.Given as goal

abbrev pub invariant-loop-page : goal.invariant-loop-page
invariant-loop-page l = record {
  from : l.from ≤ l.page;
  used : (page : ℕ) → l.from ≤ page → page < l.page → 0 < get_or l.fn.self.objects page 0;
}

abbrev pub decreases-loop-page : goal.decreases-loop-page
decreases-loop-page l = l.count - l.page
