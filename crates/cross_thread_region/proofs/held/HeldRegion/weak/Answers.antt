use Rattle.std.proofs.Common.{rules, ◌≡◌, ◌<◌, None, get_or, length, ◌∙◌, arith}
use Rattle.std.proofs.lemmas.List.FromFn.{get_or-map-range_with_len}
use Rattle.cross_thread_region.specs.Histories.{weak_place, weak_places, slots_of}
use Rattle.cross_thread_region.specs.NextEntries.{slots_len}
use Rattle.cross_thread_region.proofs.held.HeldRegion.weak.Goals as goal

pub returns : goal.returns
returns c =
    let asked : c.asked.result ≡ get_or (weak_places c.args.self.now.history) c.args.i None = search rules in
    let inside : c.args.i < length (slots_of c.args.self.now.history) = omega (arith, c.requires, slots_len c.args.self.now.history) in
    asked ∙ get_or-map-range_with_len (weak_place c.args.self.now.history) 0 (length (slots_of c.args.self.now.history)) c.args.i c.args.i None inside (omega arith)
