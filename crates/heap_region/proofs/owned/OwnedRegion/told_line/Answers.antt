use Rattle.std.proofs.Common.{◌≡◌, ℕ, ◌+◌, ◌-◌, ◌<◌, ◌≤◌, ◌^◌, List, Some, length, take, sym, ap, ◌∙◌, subst, arith}
use Rattle.std.specs.Prelude.{is_some}
use Rattle.std.specs.List.{slice_get}
use Rattle.std.proofs.Math.Seq.{take-length}
use Rattle.gc_graph.specs.declared.line.Line.TheVariants as L
use Rattle.cross_thread_region.specs.declared.chronicle.PlacedEntry.{PlacedEntry}
use Rattle.cross_thread_region.specs.Histories.{entries_of}
use Rattle.heap_region.specs.Inside.{lines_told, taken_of}
use Rattle.heap_region.specs.Owned.{OwnedView}
use Rattle.heap_region.proofs.Found.{taken_len}
use Rattle.heap_region.proofs.Told.{entry_told, lines_len}
use Rattle.heap_region.proofs.owned.OwnedRegion.told_line.Goals as goal

pub overflow_add-self-inside : goal.overflow_add-self-inside
overflow_add-self-inside c =
    let r = c.self.inside in
    let taken : List PlacedEntry = taken_of r.pass r.taken in
    let low : c.args.index < length (lines_told (is_some r.held) r.threads.replies r.shown taken) =
    subst (λ (v : OwnedView). c.args.index < length v.told) (sym c.self.view_is) c.requires in
    let is = c.self.invariant.holds c.in-Some.held c.in-Some.is in
    let small : r.taken ≤ 2 ^ 30 = omega (arith, is.all_taken, ap length is.all_seen, c.len-few.ensures.few) in
    let shown : r.shown ≤ r.taken = c.self.invariant.shown_few in
    let some : 0 < length (lines_told (is_some r.held) r.threads.replies r.shown taken) = omega (arith, low) in
    let long : length (lines_told (is_some r.held) r.threads.replies r.shown taken) ≡ length r.threads.replies + (length taken - r.shown) =
    lines_len (is_some r.held) r.threads.replies r.shown taken some in
    let all : length taken ≡ r.taken = taken_len r c.self.invariant in
    let replies : c.reply_count-replies.result ≡ length r.threads.replies = c.reply_count-replies.ensures.count in
    let fits : r.shown + (c.args.index - c.reply_count-replies.result) < 2 ^ 32 = omega (arith, low, long, all, small, shown, replies) in
    omega (arith, fits)

pub returns : goal.returns
returns c =
    let r = c.self.inside in
    let i : ℕ = c.args.index in
    let taken : List PlacedEntry = taken_of r.pass r.taken in
    let low : i < length (lines_told (is_some r.held) r.threads.replies r.shown taken) = subst (λ (v : OwnedView). i < length v.told) (sym c.self.view_is) c.requires in
    let past : length r.threads.replies ≤ i = omega (arith, c.reply_count-replies.ensures.count, c.if-index-replies.false) in
    let is = c.self.invariant.holds c.in-Some.held c.in-Some.is in
    let whole : c.in-Some.held.history ≡ taken = is.all_seen ∙ sym (ap (λ n. take n r.pass.seen) is.all_taken ∙ take-length r.pass.seen) in
    subst (λ (v : OwnedView). slice_get v.told i ≡ Some (L.Entry c.entry.result)) c.self.view_is
    (entry_told (is_some r.held) r.threads.replies r.shown taken (entries_of c.in-Some.held.history) i c.entry.result low past (ap entries_of whole)
    (subst (λ n. slice_get (entries_of c.in-Some.held.history) (r.shown + (i - n)) ≡ Some c.entry.result) c.reply_count-replies.ensures.count c.entry.ensures))
