-- A join, from what its calls give.
use Rattle.std.proofs.Common.{◌≡◌, ℕ, ◌+◌, ◌-◌, ◌<◌, ◌≤◌, true, false, List, [], ◌∷◌, length, take, Some, None, refl, sym, ap, ◌∙◌, subst, arith}
use Rattle.std.proofs.lemmas.List.{length-append, length-take-le}
use Rattle.gc_graph.specs.declared.line.Line.{Line}
use Rattle.gc_graph.specs.History.{IsLegal}
use Rattle.gc_graph.specs.State.{Node}
use Rattle.cross_thread_region.specs.Calls.{AreByRight, Finds, HeldView, PassView, after_turn, with_turn}
use Rattle.cross_thread_region.specs.Histories.{entries_of}
use Rattle.gc_graph.specs.Lawful.{TotalsNeverFall}
use Rattle.thread_queues.specs.Going.{HaveReturned, TellSomeOf}
use Rattle.thread_queues.specs.Queues.{QueuesView, posted}
use Rattle.heap_objects.specs.Objects.{ObjectsView}
use Rattle.heap_region.specs.declared.owned.OwnedRegion.TheInside.{Inside}
use Rattle.heap_region.specs.Calls.{HasJoined}
use Rattle.heap_region.specs.Handled.{IsHandled, LooksAgain}
use Rattle.heap_region.specs.Inside.{lines_told, taken_of}
use Rattle.heap_region.specs.Taking.{HasLooked, entries_between}
use Rattle.heap_region.proofs.Fields.{AreOwned, owned_view}
use Rattle.heap_region.proofs.Joined.{found_seen, handled_between, has_joined, has_looked, joined_queues, lines_len, stays_owned}

-- threads were joined, and then a turn was taken to look at the history
pub record HasMet (r : Inside) (left : QueuesView) (mid : PassView) (held : HeldView) (looking : PassView) : Type 0 where
  pub owned : AreOwned r
  pub opened : r.closed ≡ false
  pub awaits : r.threads.awaiting ≡ true
  pub mid_is : mid ≡ record r.pass { seen = mid.seen; out = [] }
  pub replies : List Line
  pub returned : HaveReturned r.threads r.pass mid.seen replies
  pub told : TellSomeOf (posted r.threads.since r.threads.last) replies
  pub fall : TotalsNeverFall replies
  pub legal : IsLegal (entries_of mid.seen)
  pub right : AreByRight mid.seen
  pub left_is : left ≡ joined_queues r owned opened awaits mid.seen replies returned told fall legal right
  pub finds : Finds mid held.history
  pub looking_is : looking ≡ with_turn mid held

none_of : (xs : List Line) → length xs ≡ 0 → xs ≡ []
none_of [] none = refl
none_of (x ∷ xs) none = absurd (omega (arith, none))

module _ {r : Inside} {left : QueuesView} {mid : PassView} {held : HeldView} {looking : PassView} (m : HasMet r left mid held looking) where
  pub history_is : held.history ≡ mid.seen
  history_is =
      found_seen mid held.history m.finds (ap (λ (p : PassView). p.number) m.mid_is ∙ m.owned.owner.first) (ap (λ (p : PassView). p.out) m.mid_is)

  pub may_look : (nodes : List Node) → IsHandled nodes (taken_of r.pass r.taken) → (k : ℕ) → r.taken ≤ k → k < length held.history → IsHandled nodes (take k held.history)
  may_look nodes handled k above below =
      subst (λ h. IsHandled nodes (take k h)) (sym history_is)
      (handled_between r m.owned m.opened m.awaits mid.seen m.replies m.returned m.told m.fall m.legal m.right nodes handled k above (omega (arith, below, ap length history_is)))

  looking_seen : looking.seen ≡ mid.seen
  looking_seen = ap (λ (p : PassView). p.seen) m.looking_is

  looking_out : looking.out ≡ []
  looking_out = ap (λ (p : PassView). p.out) (m.looking_is ∙ ap (λ (p : PassView). with_turn p held) m.mid_is)

  module _ (taken : ℕ) (taken_is : taken ≡ length held.history) where
    all_taken : taken ≡ length mid.seen
    all_taken = taken_is ∙ ap length history_is

    pub few_printed : r.printed ≤ taken
    few_printed = omega (arith, m.owned.printed_few, m.owned.few, all_taken, ap length m.returned.met.grown, length-append r.pass.seen m.returned.met.rest)

    -- the fields where the turn is kept, and where it is given back
    abbrev pub kept_fields : Inside
    kept_fields = record r { pass = looking; threads = left; held = Some held; taken = taken; printed = taken; shown = r.printed }

    abbrev pub ended_fields : PassView → Inside
    ended_fields passed = record r { pass = passed; threads = left; held = None; taken = taken; printed = taken; shown = r.printed }

    told_len : (passed : PassView) → passed.seen ≡ mid.seen
        → length (lines_told true m.replies r.printed (taken_of passed taken)) ≡ length m.replies + (taken - r.printed)
    told_len passed seen =
        lines_len m.replies r.printed (taken_of passed taken)
        ∙ ap (λ n. length m.replies + (n - r.printed))
        (length-take-le taken passed.seen (omega (arith, all_taken, ap length seen)))

    pub turn_kept : 0 < length m.replies + (taken - r.printed) → AreOwned kept_fields
    turn_kept some =
        subst (λ (queues : QueuesView). AreOwned (record kept_fields { threads = queues })) (sym m.left_is)
        (stays_owned r m.owned m.opened m.awaits mid.seen m.replies m.returned m.told m.fall m.legal m.right looking (Some held) taken looking_seen looking_out all_taken
        (record {
          lock = ap (λ (p : PassView). p.lock) (m.looking_is ∙ ap (λ (p : PassView). with_turn p held) m.mid_is) ∙ m.owned.owner.lock;
          first = ap (λ (p : PassView). p.number) (m.looking_is ∙ ap (λ (p : PassView). with_turn p held) m.mid_is) ∙ m.owned.owner.first;
          slots = m.owned.owner.slots;
          turn = ap (λ (p : PassView). p.turn) m.looking_is;
        })
        (λ h is. (let same : held ≡ h = cc in record {
          all_seen = ap (λ (v : HeldView). v.history) (sym same) ∙ history_is ∙ sym looking_seen;
          all_taken = all_taken ∙ ap length (sym looking_seen);
          joined = refl;
          tells = λ none. (let long = told_len looking looking_seen in omega (arith, some, long, ap length none));
        })))

    pub turn_ended : (passed : PassView) → passed ≡ after_turn looking held.history → AreOwned (ended_fields passed)
    turn_ended passed is =
        let whole : passed ≡ after_turn (record r.pass { seen = mid.seen; out = [] }) held.history =
        is ∙ ap (λ (p : PassView). after_turn p held.history) (m.looking_is ∙ ap (λ (p : PassView). with_turn p held) m.mid_is) in
        subst (λ (queues : QueuesView). AreOwned (record (ended_fields passed) { threads = queues })) (sym m.left_is)
        (stays_owned r m.owned m.opened m.awaits mid.seen m.replies m.returned m.told m.fall m.legal m.right passed None taken (ap (λ (p : PassView). p.seen) is ∙ history_is)
        (ap (λ (p : PassView). p.out) whole) all_taken
        (record {
          lock = ap (λ (p : PassView). p.lock) whole ∙ m.owned.owner.lock;
          first = ap (λ (p : PassView). p.number) whole ∙ m.owned.owner.first;
          slots = m.owned.owner.slots;
          turn = ap (λ (p : PassView). p.turn) whole;
        })
        (λ h never. absurd (cc)))

    pub joined_kept : HasJoined (owned_view r) (owned_view kept_fields) (length r.threads.running)
    joined_kept =
        subst (λ (queues : QueuesView). HasJoined (owned_view r) (owned_view (record kept_fields { threads = queues })) (length r.threads.running)) (sym m.left_is)
        (has_joined r m.owned m.opened m.awaits mid.seen m.replies m.returned m.told m.fall m.legal m.right looking (Some held) taken looking_seen looking_out all_taken refl)

    pub joined_ended : (passed : PassView) → passed ≡ after_turn looking held.history → length m.replies + (taken - r.printed) ≡ 0
        → HasJoined (owned_view r) (owned_view (ended_fields passed)) (length r.threads.running)
    joined_ended passed is none =
        let seen : passed.seen ≡ mid.seen = ap (λ (p : PassView). p.seen) is ∙ history_is in
        let out : passed.out ≡ [] = ap (λ (p : PassView). p.out) is ∙ looking_out in
        subst (λ (queues : QueuesView). HasJoined (owned_view r) (owned_view (record (ended_fields passed) { threads = queues })) (length r.threads.running)) (sym m.left_is)
        (has_joined r m.owned m.opened m.awaits mid.seen m.replies m.returned m.told m.fall m.legal m.right passed None taken seen out all_taken
        (sym (none_of (lines_told true m.replies r.printed (taken_of passed taken)) (told_len passed seen ∙ none))))

    pub looked_kept : (objects looked : ObjectsView) → HasLooked objects (take r.taken held.history) (entries_between r.taken taken held.history) looked
        → LooksAgain objects (owned_view r) (owned_view kept_fields) looked
    looked_kept objects looked looks =
        subst (λ (queues : QueuesView). LooksAgain objects (owned_view r) (owned_view (record kept_fields { threads = queues })) looked) (sym m.left_is)
        (has_looked r m.owned m.opened m.awaits mid.seen m.replies m.returned m.told m.fall m.legal m.right looking (Some held) taken looking_seen looking_out all_taken objects looked held.history
        history_is looks)

    pub looked_ended : (passed : PassView) → passed ≡ after_turn looking held.history → (objects looked : ObjectsView)
        → HasLooked objects (take r.taken held.history) (entries_between r.taken taken held.history) looked
        → LooksAgain objects (owned_view r) (owned_view (ended_fields passed)) looked
    looked_ended passed is objects looked looks =
        let seen : passed.seen ≡ mid.seen = ap (λ (p : PassView). p.seen) is ∙ history_is in
        let out : passed.out ≡ [] = ap (λ (p : PassView). p.out) is ∙ looking_out in
        subst (λ (queues : QueuesView). LooksAgain objects (owned_view r) (owned_view (record (ended_fields passed) { threads = queues })) looked) (sym m.left_is)
        (has_looked r m.owned m.opened m.awaits mid.seen m.replies m.returned m.told m.fall m.legal m.right passed None taken seen out all_taken objects looked held.history history_is looks)
