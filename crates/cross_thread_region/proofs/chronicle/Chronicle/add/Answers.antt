use Rattle.std.proofs.Common.{rules, arith, ◌+◌, ◌<◌, ◌^◌, length, vec_capacity}
use Rattle.cross_thread_region.proofs.Appended.{call_kept}
use Rattle.cross_thread_region.proofs.Noted.{call_noted}
use Rattle.cross_thread_region.proofs.chronicle.Chronicle.add.Goals as goal

pub invariant_of-self-2 : goal.invariant_of-self-2
invariant_of-self-2 c =
    let noted : length c.self.inside.reads.items + 1 < vec_capacity c.push_reserved-2.new.self = search rules in
    let few : length c.self.inside.history.items + 1 < 2 ^ 30 = omega (arith, c.if-len-gt-MOST_ENTRIES.false) in
    let room : length c.self.inside.history.items + 1 < vec_capacity c.push_reserved.new.self = search rules in (
      call_kept _ _ c.self.inside.history.items _ _ c.args.thread c.args.place c.args.op c.reply_of-reply.result _ _ _ c.self.invariant.0 c.requires.within c.requires.right
          c.requires.small c.reply_of-reply.ensures room few c.change.ensures.slots c.change.ensures.places (search rules),
      c.self.invariant.1,
      call_noted _ _ c.self.inside.history.items _ _ _ c.args.thread c.args.place c.args.op c.reply_of-reply.result c.self.inside.reads.items
          c.weak_read-read.result _ _ c.self.invariant.0 c.self.invariant.2 c.weak_read-read.ensures noted (search rules) (search rules),
    )

pub returns-clause-legal : goal.returns-clause-legal
returns-clause-legal c = (invariant_of-self-2 c).0.legal
