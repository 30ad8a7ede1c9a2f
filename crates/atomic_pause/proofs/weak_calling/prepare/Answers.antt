use Rattle.std.proofs.Common.{rules, ◌≡◌, ℕ, false, List, [], ◌∷◌, ◌==◌, Option, cond, All, map, sym, ap, ◌∙◌, subst, refl, Bor, MutBor}
use Rattle.std.proofs.Transfers.{starts_with_of_eq, starts_with_trans}
use Rattle.std.specs.Io.{StartsWith}
use Rattle.gc_graph.specs.State.{ObjectType}
use Rattle.marker_core.specs.Bodies.{IsPlace}
use Rattle.marker_core.specs.declared.states.Body.{Body}
use Rattle.type_table.specs.declared.table.TypeTable.{TypeTable}
use Rattle.page_words.specs.declared.mutator.MutatorSeat.{MutatorSeat}
use Rattle.page_words.specs.Seat.{SeatView, OnlyLooked}
use Rattle.callback_table.specs.Steady.{may_be_asked, stays_known, left_by_rule}
use Rattle.weak_clearing.specs.Clearing.{MarkedHaveWeakReferences}
use Rattle.weak_clearing.specs.Dying.{dying_of, HasShownFields}
use Rattle.weak_clearing.specs.Space.{SpaceView, IsSeatOf}
use Rattle.weak_clearing.specs.declared.Space.{Space}
use Rattle.atomic_pause.specs.WeakCalling.{IsShownAt, dying_at}
use Rattle.atomic_pause.proofs.weak_calling.prepare.Goals as goal

abbrev State : Type 0
State = record { 0 : Bor Space; 1 : Bor TypeTable; 2 : MutBor MutatorSeat }

-- the same parts are looked at, and headers were
record IsAs (space : SpaceView) (types : List ObjectType) (v : SeatView) (name : ℕ) (mask : State) : Type 0 where
  space_is : mask.0.now ≡ space
  types_is : mask.1.now ≡ types
  looked : OnlyLooked v mask.2.now
  begins : StartsWith mask.2.now.looked v.looked
  named : mask.2.ghost_name ≡ name

same_dying : (v w : SeatView) (bodies : List Body) (place : ℕ) → OnlyLooked v w → dying_at w bodies place ≡ dying_at v bodies place
same_dying v w [] place same = refl
same_dying v w (b ∷ bodies) place same =
    ap (λ (x : SeatView). cond (b.place == place) (dying_of x b) (dying_at w bodies place)) same
    ∙ ap (λ rest. cond (b.place == place) (dying_of v b) rest) (same_dying v w bodies place same)

-- each time it is asked the same parts are looked at, and the answer is that of the place
answered : (space : SpaceView) (types : List ObjectType) (v : SeatView) (name : ℕ) (mask next : State)
    → IsAs space types v name mask → next.0.now ≡ mask.0.now → next.1.now ≡ mask.1.now → OnlyLooked mask.2.now next.2.now
    → StartsWith next.2.now.looked mask.2.now.looked → next.2.ghost_name ≡ mask.2.ghost_name → IsAs space types v name next
answered space types v name mask next k same_space same_types looked more named = record {
  space_is = same_space ∙ k.space_is;
  types_is = same_types ∙ k.types_is;
  looked = looked ∙ k.looked;
  begins = starts_with_trans next.2.now.looked mask.2.now.looked v.looked more k.begins;
  named = named ∙ k.named;
}

pub prepare-requires : goal.prepare-requires
prepare-requires c =
    may_be_asked _ _ (IsAs c.args.space.now c.args.types.now c.args.seat.now _) (IsShownAt c.args.seat.now)
    (λ mask place k fit.
    let heap : IsSeatOf mask.0.now mask.2.now =
    subst (λ space. IsSeatOf space mask.2.now) (sym k.space_is) (subst (IsSeatOf c.args.space.now) (sym k.looked) c.requires.heap) in
    let off : mask.2.now.on ≡ false = ap (λ (x : SeatView). x.on) k.looked ∙ c.requires.off in
    let types : mask.1.now ≡ mask.2.now.types = k.types_is ∙ c.requires.types ∙ sym (ap (λ (x : SeatView). x.types) k.looked) in
    let references : MarkedHaveWeakReferences mask.2.now = subst MarkedHaveWeakReferences (sym k.looked) c.requires.references in
    let there : IsShownAt mask.2.now place = record {
      there = subst (λ (x : SeatView). IsPlace x.bodies place) (sym k.looked) fit.there;
      shown = subst (λ (x : SeatView). HasShownFields x place) (sym k.looked) fit.shown;
    } in
    search rules)
    (λ mask place answer next k s.
    let looked : OnlyLooked mask.2.now next.2.now = search rules in
    let more : StartsWith next.2.now.looked mask.2.now.looked = search rules in
    let named : next.2.ghost_name ≡ mask.2.ghost_name = search rules in
    answered c.args.space.now c.args.types.now c.args.seat.now _ mask next k (search rules) (search rules) looked more named) _ _ (record { space_is = refl; types_is = refl; looked = refl; begins = starts_with_of_eq _ _ refl; named = refl })
    c.requires.registered

pub returns-clause-entries : goal.returns-clause-entries
returns-clause-entries c =
    left_by_rule _ (IsAs c.args.space.now c.args.types.now c.args.seat.now _) (dying_at c.args.seat.now c.args.seat.now.bodies)
    (λ mask place answer next k s.
    let bodies : mask.2.now.bodies ≡ c.args.seat.now.bodies = ap (λ (x : SeatView). x.bodies) k.looked in
    let same : dying_at mask.2.now mask.2.now.bodies place ≡ dying_at c.args.seat.now c.args.seat.now.bodies place =
    ap (λ bs. dying_at mask.2.now bs place) bodies ∙ same_dying c.args.seat.now mask.2.now c.args.seat.now.bodies place k.looked in
    search rules)
    (λ mask place answer next k s.
    let looked : OnlyLooked mask.2.now next.2.now = search rules in
    let more : StartsWith next.2.now.looked mask.2.now.looked = search rules in
    let named : next.2.ghost_name ≡ mask.2.ghost_name = search rules in
    answered c.args.space.now c.args.types.now c.args.seat.now _ mask next k (search rules) (search rules) looked more named) _ _ _ _
    (record { space_is = refl; types_is = refl; looked = refl; begins = starts_with_of_eq _ _ refl; named = refl }) c.prepare.ensures.left

pub returns-clause-view : goal.returns-clause-view
returns-clause-view c =
    let known = stays_known _ (IsAs c.args.space.now c.args.types.now c.args.seat.now _)
    (λ mask place answer next k s.
    let looked : OnlyLooked mask.2.now next.2.now = search rules in
    let more : StartsWith next.2.now.looked mask.2.now.looked = search rules in
    let named : next.2.ghost_name ≡ mask.2.ghost_name = search rules in
    answered c.args.space.now c.args.types.now c.args.seat.now _ mask next k (search rules) (search rules) looked more named) _ _ _ _
    (record { space_is = refl; types_is = refl; looked = refl; begins = starts_with_of_eq _ _ refl; named = refl }) c.prepare.ensures.left in
    search rules

pub returns-clause-looked : goal.returns-clause-looked
returns-clause-looked c =
    let known = stays_known _ (IsAs c.args.space.now c.args.types.now c.args.seat.now _)
    (λ mask place answer next k s.
    let looked : OnlyLooked mask.2.now next.2.now = search rules in
    let more : StartsWith next.2.now.looked mask.2.now.looked = search rules in
    let named : next.2.ghost_name ≡ mask.2.ghost_name = search rules in
    answered c.args.space.now c.args.types.now c.args.seat.now _ mask next k (search rules) (search rules) looked more named) _ _ _ _
    (record { space_is = refl; types_is = refl; looked = refl; begins = starts_with_of_eq _ _ refl; named = refl }) c.prepare.ensures.left in
    search rules
