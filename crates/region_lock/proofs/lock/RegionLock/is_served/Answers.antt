use Rattle.std.proofs.Common.{arith, sym, ◌∙◌, ⊎_elim}
use Rattle.std.proofs.lemmas.Bool.{eqb-true}
use Rattle.region_lock.proofs.Turns.{waits}
use Rattle.region_lock.proofs.lock.RegionLock.is_served.Goals as goal

pub load-requires : goal.load-requires
load-requires g c =
    let seat = c.args.seat.now in (
      c.requires.lock ∙ sym c.self.view_is,
      omega (arith, c.self.invariant.0),
      waits g.V.Chronicle.entries g.V.Chronicle.number c.self.inside.table.shared.table_id.slots seat.id seat.me c.args.ticket c.requires.waits,
    )

-- the word that was found is the own ticket's
pub returns-clause-yes : goal.returns-clause-yes
returns-clause-yes g c same = ⊎_elim
    (λ mine. mine.1)
    (λ other. absurd (other.0 (eqb-true c.load.result c.args.ticket same ∙ c.requires.waits.ticket)))
    c.load.ensures.2
