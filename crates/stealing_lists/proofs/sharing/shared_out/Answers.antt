use Rattle.std.proofs.Common.{◌≡◌, ℕ, List, ◌+◌, [], ◌∷◌, ◌++◌, length, sym, subst, ◌∙◌, ap, arith}
use Rattle.std.specs.Result.{OnOk}
use Rattle.mark_worklist.specs.Shares.{put_of}
use Rattle.mark_worklist.specs.Families.{at}
use Rattle.mark_worklist.specs.Joining.{AreAllShares, put_by}
use Rattle.stealing_lists.proofs.OneShare.{one-share, none-left, nothing-put, all-put}
use Rattle.stealing_lists.proofs.sharing.shared_out.Goals as goal

pub finish-tally-requires : goal.finish-tally-requires
finish-tally-requires g c =
    let list' = c.join-list.result.0.0 in
    record {
      all = subst (AreAllShares list') (sym (c.push_reserved.ensures.items
          ∙ ap (λ l. l ++ c.join-list.result.1 ∷ []) (c.remove-share.ensures.items ∙ none-left c.in_ok-list.shares.items c.in_ok-list.ensures.as_many)))
          (one-share c.in_ok-list.list c.in_ok-list.shares.items list' c.remove-share.result c.join-list.result.1 c.in_ok-list.ensures
          c.remove-share.ensures.value c.join-list.ensures.first.0 c.join-list.ensures.second.0);
    }

pub returns-clause-put : goal.returns-clause-put
returns-clause-put g c =
    let list' = c.join-list.result.0.0 in
    let one' = c.join-list.result.1 in
    let fresh = c.in_ok-list.ensures in
    let none = nothing-put c.in_ok-list.list c.in_ok-list.shares.items c.remove-share.result fresh c.remove-share.ensures.value in
    let items = c.push_reserved.ensures.items
    ∙ ap (λ l. l ++ one' ∷ []) (c.remove-share.ensures.items ∙ none-left c.in_ok-list.shares.items fresh.as_many) in
    let put : length (put_of (at list' 0)) ≡ length (put_of (at c.in_ok-list.list 0)) + c.args.count =
    subst (λ r. OnOk r (length (put_of (at list' 0)) ≡ length (put_of (at c.in_ok-list.list 0)) + c.args.count)) c.in_ok-done.was
    c.join-list.ensures.first.1 in
    let all : c.finish-tally.result.pushed ≡ length (put_of (at list' 0)) =
    c.finish-tally.ensures.pushed ∙ ap (λ l. length (put_by (list' ++ l))) items
    ∙ all-put list' one' (c.join-list.ensures.first.0.as_many ∙ fresh.alone) (c.join-list.ensures.second.1 ∙ none.1) in
    omega (arith, all, put, ap length none.0)

pub returns-clause-kept : goal.returns-clause-kept
returns-clause-kept g c =
    let left = c.finish-tally.ensures.left in
    omega (arith, returns-clause-put g c, c.finish-tally.ensures.pushed, c.finish-tally.ensures.taken, left.1, left.2.as_many)
