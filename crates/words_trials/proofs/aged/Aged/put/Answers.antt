use Rattle.std.proofs.Common.{◌≡◌, ◌+◌, ℕ, List, sym, ap, ◌∙◌, subst, arith}
use Rattle.std.specs.List.{Contains}
use Rattle.page_words.specs.Seat.{SeatView, OnlyLooked, unlooked}
use Rattle.page_space.specs.Space.{SpaceView, IsSpaceOf}
use Rattle.words_trials.proofs.AgedHeaps.{IsAged, aged_still, aged_made}
use Rattle.words_trials.proofs.aged.Aged.put.Goals as goal
use Rattle.words_trials.proofs.aged.Aged.put.Goals.{in-Some, in-None+in_ok-place-in-None}

pub invariant_of-self-in_err-place-in-None : goal.invariant_of-self-in_err-place-in-None
invariant_of-self-in_err-place-in-None c =
    let same : OnlyLooked c.self.inside.seat c.find_empty.new.seat = ap unlooked c.find_empty.ensures.view ∙ c.find.ensures.view in
    let laid : IsSpaceOf c.find_empty.new.self c.find_empty.new.seat =
    subst (λ (s : SpaceView). IsSpaceOf s c.find_empty.new.seat) (sym c.find_empty.ensures.same)
    (subst (λ (v : SeatView). IsSpaceOf c.find.new.self v) (sym c.find_empty.ensures.view) c.find.ensures.space)
    in
    subst (λ (young : List ℕ). IsAged c.find_empty.new.self c.find_empty.new.seat c.self.inside.dead.items young c.self.inside.next)
    (sym c.reserve.ensures.items)
    (aged_still c.self.inside.space c.find_empty.new.self c.self.inside.seat c.find_empty.new.seat c.self.inside.dead.items c.self.inside.young.items
    c.self.inside.next same laid c.self.invariant)

pub occupy-requires-clause-number : goal.occupy-requires-clause-number
occupy-requires-clause-number c = λ b there same.
    let seat : OnlyLooked c.self.inside.seat c.match-find.self-inside.seat = elim c.match-find.branch [
      | in-Some w ↦ ap (λ s. unlooked s.seat) w.self-inside-is ∙ c.find.ensures.view
      | in-None+in_ok-place-in-None w ↦ ap (λ s. unlooked s.seat) w.self-inside-is ∙ ap unlooked w.find_empty.ensures.view ∙ c.find.ensures.view
    ] in
    let next : c.match-find.self-inside.next ≡ c.self.inside.next = elim c.match-find.branch [
      | in-Some w ↦ ap (λ s. s.next) w.self-inside-is
      | in-None+in_ok-place-in-None w ↦ ap (λ s. s.next) w.self-inside-is
    ] in
    let before = c.self.invariant.7 b (subst (λ (v : SeatView). Contains v.bodies b) seat there) in
    omega (arith, before, same, next)

pub invariant_of-self-2 : goal.invariant_of-self-2
invariant_of-self-2 c =
    let seat : OnlyLooked c.self.inside.seat c.match-find.self-inside.seat = elim c.match-find.branch [
      | in-Some w ↦ ap (λ s. unlooked s.seat) w.self-inside-is ∙ c.find.ensures.view
      | in-None+in_ok-place-in-None w ↦ ap (λ s. unlooked s.seat) w.self-inside-is ∙ ap unlooked w.find_empty.ensures.view ∙ c.find.ensures.view
    ] in
    let next : c.match-find.self-inside.next ≡ c.self.inside.next = elim c.match-find.branch [
      | in-Some w ↦ ap (λ s. s.next) w.self-inside-is
      | in-None+in_ok-place-in-None w ↦ ap (λ s. s.next) w.self-inside-is
    ] in
    let dead : c.match-find.self-inside.dead.items ≡ c.self.inside.dead.items = elim c.match-find.branch [
      | in-Some w ↦ ap (λ s. s.dead.items) w.self-inside-is
      | in-None+in_ok-place-in-None w ↦ ap (λ s. s.dead.items) w.self-inside-is
    ] in
    let young : c.match-find.self-inside.young.items ≡ c.self.inside.young.items = elim c.match-find.branch [
      | in-Some w ↦ ap (λ s. s.young.items) w.self-inside-is ∙ c.reserve.ensures.items
      | in-None+in_ok-place-in-None w ↦ ap (λ s. s.young.items) w.self-inside-is ∙ c.reserve.ensures.items
    ] in
    let old = c.match-find.self-inside in
    let aged : IsAged c.self.inside.space old.seat old.dead.items old.young.items old.next =
    subst (λ (n : ℕ). IsAged c.self.inside.space old.seat old.dead.items old.young.items n) (sym next)
    (subst (λ (l : List ℕ). IsAged c.self.inside.space old.seat old.dead.items l c.self.inside.next) (sym young)
    (subst (λ (l : List ℕ). IsAged c.self.inside.space old.seat l c.self.inside.young.items c.self.inside.next) (sym dead)
    (subst (λ (v : SeatView). IsAged c.self.inside.space v c.self.inside.dead.items c.self.inside.young.items c.self.inside.next) (sym seat)
    c.self.invariant)))
    in
    let more : c.in_ok-next.next ≡ old.next + 1 = (let told = c.in_ok-next.ensures in omega (arith, told.1, next)) in
    subst (λ (n : ℕ). IsAged c.occupy.new.self c.occupy.new.seat old.dead.items c.push_reserved.new.self.items n) (sym more)
    (subst (λ (l : List ℕ). IsAged c.occupy.new.self c.occupy.new.seat old.dead.items l (old.next + 1)) (sym c.push_reserved.ensures.items)
    (aged_made c.self.inside.space c.occupy.new.self old.seat c.occupy.new.seat old.dead.items old.young.items old.next c.match-find.place c.args.size
    c.occupy.ensures.occupied c.occupy.ensures.space aged))
