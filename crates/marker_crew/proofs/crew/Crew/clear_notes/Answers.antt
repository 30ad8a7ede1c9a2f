use Rattle.std.proofs.Common.{◌<◌, length, set, ap, ◌∙◌, arith}
use Rattle.std.proofs.lemmas.List.{length-set}
use Rattle.std.proofs.lemmas.List.Edits.{map_over_more}
use Rattle.pair_notes.specs.Notes.{notes_cleared}
use Rattle.marker_crew.proofs.crew.Crew.clear_notes.Goals as goal

pub loop-i-preserved : goal.loop-i-preserved
loop-i-preserved c =
    let inv = c.loop-i.invariant in
    let old = c.self.inside.notes.items in
    let now = c.loop-i.self-inside.notes.items in
    let i = c.loop-i.i in
    let low : i < length old = omega (arith, c.loop-i-test.true, inv.end) in
    record {
      cleared_so_far =
          ap (set now i) (c.clear.ensures) ∙ map_over_more notes_cleared old now i c.index_mut.result.now low inv.cleared_so_far c.index_mut.ensures.value;
      as_many = length-set now i c.clear.new.self ∙ inv.as_many;
      end = inv.end;
      room_notes = inv.room_notes;
      markers = inv.markers;
      shares = inv.shares;
      runners = inv.runners;
    }
