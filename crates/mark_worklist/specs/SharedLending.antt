-- What is lent of an owner's list.
use Rattle.std.specs.Prelude.{List, slice_set}
use Rattle.std.specs.Borrow.{Lends, MutBor, Fml}
use Rattle.mark_worklist.specs.Shares.{ShareState}
use Rattle.mark_worklist.specs.contracts.lists.SharedList.{the_row}
use Rattle.mark_worklist.specs.contracts.share.Share.{the_row as share_row}

-- the list ends with the last value behind r as its first share
abbrev pub LendsFirstShare : MutBor (List ShareState) → MutBor ShareState → Fml
LendsFirstShare s r = Lends the_row share_row s r (λ w. slice_set s.now 0 w)
