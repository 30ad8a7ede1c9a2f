use Rattle.std.proofs.Common.{◌≡◌, ℕ, ◌*◌, ◌≤◌, true, false, get_or}
use Rattle.gap_bounds.specs.Gaps.{is_between, is_known}
use Rattle.gap_bounds.proofs.gaps.Gaps.forget.Given as goal

abbrev pub invariant-loop-page : goal.invariant-loop-page
invariant-loop-page l = record {
  here : (page : ℕ) → is_between l.first l.page page ≡ true → is_known l.self page ≡ false;
  there : (page : ℕ) → is_between l.first l.page page ≡ false → is_known l.self page ≡ is_known l.fn.self page;
  lower : (class : ℕ) → get_or l.self.first class 0 ≤ get_or l.fn.self.first class 0;
  start : (page class : ℕ) → is_between l.first l.page page ≡ true → is_known l.fn.self page ≡ true
      → get_or l.self.first class 0 ≤ page * l.page_words;
  bounds : l.self.bounds ≡ l.fn.self.bounds;
  most : l.self.most ≡ l.fn.self.most;
}
