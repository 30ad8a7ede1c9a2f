use Rattle.std.proofs.Common.{rules, ◌≡◌, ◌≤◌, subst}
use Rattle.mark_worklist.specs.Lists.{ListState, IsPutOnList, list_refused_once}
use Rattle.mark_worklist.specs.Shares.{last_count}
use Rattle.mark_worklist.specs.Left.{list_state_of}
use Rattle.mark_worklist.proofs.Kept.{shares_there, on_ok, if_err, pushed_out, refused_out, fits_out}
use Rattle.mark_worklist.proofs.worklist.Worklist.push.Goals as goal

pub push_out-requires : goal.push_out-requires
push_out-requires c =
    let l = c.self.inside in
    record { some = shares_there l.out l.items.items l.idle l.shared l.left.value c.if-self.true c.self.invariant }

pub returns-then-self-clause-done : goal.returns-then-self-clause-done
returns-then-self-clause-done c =
    let l = c.self.inside in
    let view : list_state_of l.out l.items.items l.refused l.idle l.shared l.left.value ≡ c.args.self.now = search rules in
    on_ok c.push_out.result _ _
    (λ done. subst (λ (s : ListState). IsPutOnList s c.args.a (list_state_of l.out l.items.items l.refused l.idle c.push_out.new.shared l.left.value)) view
    (pushed_out l.items.items l.refused l.idle l.shared c.push_out.new.shared l.left.value c.args.a c.push_out.ensures.own l.out c.if-self.true done))
    c.push_out.ensures.done

pub returns-then-self-clause-refused : goal.returns-then-self-clause-refused
returns-then-self-clause-refused c =
    let l = c.self.inside in
    let view : list_state_of l.out l.items.items l.refused l.idle l.shared l.left.value ≡ c.args.self.now = search rules in
    if_err c.push_out.result _ _
    (λ back h. (
      h.0,
      subst (λ (s : ListState). list_state_of l.out l.items.items l.refused l.idle c.push_out.new.shared l.left.value ≡ list_refused_once s) view
          (refused_out l.items.items l.refused l.idle l.shared c.push_out.new.shared l.left.value c.args.a c.push_out.ensures.own l.out c.if-self.true h.1),
    )) c.push_out.ensures.refused

pub returns-then-self-clause-fits : goal.returns-then-self-clause-fits
returns-then-self-clause-fits c =
    let l = c.self.inside in
    let view : list_state_of l.out l.items.items l.refused l.idle l.shared l.left.value ≡ c.args.self.now = search rules in
    subst (λ (s : ListState). s.refused ≤ last_count) view
    (fits_out l.items.items l.refused l.idle l.shared c.push_out.new.shared l.left.value c.args.a c.push_out.ensures.own l.out c.if-self.true c.push_out.ensures.fits)
