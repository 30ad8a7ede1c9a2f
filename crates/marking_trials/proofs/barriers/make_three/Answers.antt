use Rattle.marking_trials.proofs.barriers.make_three.Goals as goal

pub returns : goal.returns
returns c = record {
  young = c.in_ok-third.ensures.young;
  first = c.make-3.ensures.kept c.in_ok-first.first (c.make-2.ensures.kept c.in_ok-first.first c.in_ok-first.ensures.made);
  second = c.make-3.ensures.kept c.in_ok-second.second c.in_ok-second.ensures.made;
  third = c.in_ok-third.ensures.made;
}
