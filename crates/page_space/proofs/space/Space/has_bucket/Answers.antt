use Rattle.std.proofs.Common.{◌≡◌, ap, Some}
use Rattle.std.proofs.lemmas.Bool.{eqb-true, eq-eqb}
use Rattle.page_space.proofs.space.Space.has_bucket.Goals as goal

pub returns-in-Some-clause-bucket : goal.returns-in-Some-clause-bucket
returns-in-Some-clause-bucket c = (
  (λ yes. (c.in-Some.ensures.bucket c.args.bucket).0 (ap Some (eqb-true c.in-Some.found c.args.bucket yes))),
  (λ has.
      let is = (c.in-Some.ensures.bucket c.args.bucket).1 has in
      eq-eqb c.in-Some.found c.args.bucket (let same : c.in-Some.found ≡ c.args.bucket = cc in same)),
)
