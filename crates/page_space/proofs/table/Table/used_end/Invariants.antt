use Rattle.std.proofs.Common.{◌≡◌, ℕ, ◌<◌, ◌≤◌, get_or}
use Rattle.page_space.proofs.table.Table.used_end.Given as goal

abbrev pub invariant-loop-page : goal.invariant-loop-page
invariant-loop-page l = record {
  within : l.page ≤ l.end;
  empty : (page : ℕ) → l.page ≤ page → page < l.end → get_or l.fn.self.objects page 0 ≡ 0;
}

abbrev pub decreases-loop-page : goal.decreases-loop-page
decreases-loop-page l = l.page
