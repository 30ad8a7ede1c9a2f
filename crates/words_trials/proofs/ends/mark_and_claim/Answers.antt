use Rattle.words_trials.proofs.EndSteps.{end_place, end_kept, going, gone, marked_goes, claimed_goes, marked_too, traced_too, traced_are_marked}
use Rattle.words_trials.proofs.ends.mark_and_claim.Goals as goal

pub mark-fresh-requires-clause-place : goal.mark-fresh-requires-clause-place
mark-fresh-requires-clause-place c = end_place c.args.seat.now 5 9 c.args.place c.requires.ends.4 c.requires.place

pub mark-fresh-requires-clause-may : goal.mark-fresh-requires-clause-may
mark-fresh-requires-clause-may c =
    let g = going c.args.space.now c.args.seat.now c.requires.ends in
    end_kept c.args.seat.now c.args.place g.10 g.11 c.requires.place

pub mark-again-requires-clause-place : goal.mark-again-requires-clause-place
mark-again-requires-clause-place c =
    let v = c.args.seat.now in
    let g = marked_goes c.args.space.now v c.mark-fresh.new.seat v.marked v.marked c.args.place c.mark-fresh.result (going c.args.space.now v c.requires.ends)
    c.mark-fresh.ensures.view c.mark-fresh.ensures.fresh in
    end_place c.mark-fresh.new.seat 5 9 c.args.place g.4 c.requires.place

pub mark-again-requires-clause-may : goal.mark-again-requires-clause-may
mark-again-requires-clause-may c =
    let v = c.args.seat.now in
    let g = marked_goes c.args.space.now v c.mark-fresh.new.seat v.marked v.marked c.args.place c.mark-fresh.result (going c.args.space.now v c.requires.ends)
    c.mark-fresh.ensures.view c.mark-fresh.ensures.fresh in
    end_kept c.mark-fresh.new.seat c.args.place g.10 g.11 c.requires.place

pub claim-grey-requires-clause-place : goal.claim-grey-requires-clause-place
claim-grey-requires-clause-place c =
    let v = c.args.seat.now in
    let a = c.args.place in
    let once = marked_too v.marked a in
    let g = marked_goes c.args.space.now v c.mark-fresh.new.seat v.marked v.marked a c.mark-fresh.result (going c.args.space.now v c.requires.ends)
    c.mark-fresh.ensures.view c.mark-fresh.ensures.fresh in
    let h = marked_goes c.args.space.now c.mark-fresh.new.seat c.mark-again.new.seat once v.marked a c.mark-again.result g c.mark-again.ensures.view
    c.mark-again.ensures.fresh in
    end_place c.mark-again.new.seat 5 9 a h.4 c.requires.place

pub claim-claimed-requires-clause-place : goal.claim-claimed-requires-clause-place
claim-claimed-requires-clause-place c =
    let v = c.args.seat.now in
    let a = c.args.place in
    let once = marked_too v.marked a in
    let g = marked_goes c.args.space.now v c.mark-fresh.new.seat v.marked v.marked a c.mark-fresh.result (going c.args.space.now v c.requires.ends)
    c.mark-fresh.ensures.view c.mark-fresh.ensures.fresh in
    let h = marked_goes c.args.space.now c.mark-fresh.new.seat c.mark-again.new.seat once v.marked a c.mark-again.result g c.mark-again.ensures.view
    c.mark-again.ensures.fresh in
    let k = claimed_goes c.args.space.now c.mark-again.new.seat c.claim-grey.new.seat (marked_too once a) v.marked a c.claim-grey.result h
    c.claim-grey.ensures.view c.claim-grey.ensures.grey in
    end_place c.claim-grey.new.seat 5 9 a k.4 c.requires.place

pub returns : goal.returns
returns c =
    let v = c.args.seat.now in
    let a = c.args.place in
    let once = marked_too v.marked a in
    let twice = marked_too once a in
    let traced = traced_too twice v.marked a in
    let g = marked_goes c.args.space.now v c.mark-fresh.new.seat v.marked v.marked a c.mark-fresh.result (going c.args.space.now v c.requires.ends)
    c.mark-fresh.ensures.view c.mark-fresh.ensures.fresh in
    let h = marked_goes c.args.space.now c.mark-fresh.new.seat c.mark-again.new.seat once v.marked a c.mark-again.result g c.mark-again.ensures.view
    c.mark-again.ensures.fresh in
    let k = claimed_goes c.args.space.now c.mark-again.new.seat c.claim-grey.new.seat twice v.marked a c.claim-grey.result h c.claim-grey.ensures.view
    c.claim-grey.ensures.grey in
    let l = claimed_goes c.args.space.now c.claim-grey.new.seat c.claim-claimed.new.seat twice traced a c.claim-claimed.result k c.claim-claimed.ensures.view
    c.claim-claimed.ensures.grey in
    record { ends = gone c.args.space.now c.claim-claimed.new.seat twice (traced_too twice traced a) l (traced_are_marked v.marked a) }
