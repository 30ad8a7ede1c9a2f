use Rattle.std.proofs.Common.{rules, ◌≡◌, length, take, sym, ap, ◌∙◌}
use Rattle.std.specs.List.{sum_by}
use Rattle.std.proofs.lemmas.List.{take_all}
use Rattle.std.proofs.lemmas.List.Concat.{length-flat_map}
use Rattle.mark_worklist.specs.Shares.{put_of}
use Rattle.mark_worklist.proofs.counting.count_pushed.Goals as goal

pub returns : goal.returns
returns c =
    let shares = c.args.family.now.items in
    let all : take c.loop-i.i shares ≡ shares = take_all c.loop-i.i shares (search rules) in
    c.loop-i.invariant.counted ∙ ap (sum_by (λ s. length (put_of s))) all ∙ sym (length-flat_map put_of shares)
