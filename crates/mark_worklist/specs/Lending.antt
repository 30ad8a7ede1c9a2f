-- What is lent of a list.
use Rattle.std.specs.Prelude.{slice_set}
use Rattle.std.specs.Borrow.{Lends, MutBor, Fml}
use Rattle.mark_worklist.specs.Shares.{ShareState}
use Rattle.mark_worklist.specs.contracts.share.Share.{the_row as share_row}
use Rattle.mark_worklist.specs.contracts.worklist.Worklist.{the_row}
use Rattle.mark_worklist.specs.Lists.{ListState, as_own}

-- the list ends with the last value behind r as the owner's share, and as that share tells
abbrev pub LendsOwn : MutBor ListState → MutBor ShareState → Fml
LendsOwn s r = Lends the_row share_row s r (λ w. as_own (slice_set s.now.shares 0 w))
