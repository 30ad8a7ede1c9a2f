-- Over a whole run each number is placed and finalised once, and stays at its place.
use Rattle.std.proofs.Common.{◌≡◌, ℕ, zero, suc, ◌+◌, ◌<◌, ◌≤◌, true, List, [], ◌∷◌, ◌++◌, length, take, All, Contains, Some, None, refl, sym, ◌∙◌, subst, inl, inr, arith}
use mathlib.Core.Logic.{◌⊎◌}
use Rattle.std.specs.List.{slice_get}
use Rattle.std.proofs.lemmas.Bool.{cases_lt}
use Rattle.std.proofs.lemmas.List.Elements.{All-head, All-tail}
use Rattle.gc_graph.specs.declared.command.Command.{Command}
use Rattle.gc_graph.specs.declared.line.Line.{Line}
use Rattle.gc_graph.specs.declared.line.Line.TheVariants as L
use Rattle.gc_graph.specs.State.{Setup, State, Node, node_at, is_there, size_of, Life, IsLive, IsDead, empty_state}
use Rattle.gc_graph.specs.State.Life.{Live, Dead, Gone}
use Rattle.gc_graph.specs.Placement.{HasWord, extent_of}
use Rattle.gc_graph.specs.Valid.{IsValid, AreApart}
use Rattle.gc_graph.specs.Lawful.{Outcome, Run, last_state, state_after, IsAllowed}
use Rattle.gc_graph.specs.OnceLaw.{all_lines, AreOnce, TellsPause, Once, NodesStayPut}
use Rattle.gc_graph.proofs.Sound.{sound_from}
use Rattle.gc_graph.proofs.NodeWrites.{look_same}
use Rattle.gc_graph.proofs.ValidSteps.{step_keeps_valid, empty_is_valid}
use Rattle.gc_graph.specs.NodeNumbers.{gone_not_dead, live_not_dead, dead_below}
use Rattle.gc_graph.proofs.Lives.{event_of, StaysPut, IsMadeBy, IsBuried, AreTold, line_first, line_later, died_at, told_grows, told_gone, told_put, not_placed, not_finalised, not_read, was_placed, went, told_append, IsToldAt, told_at}
use Rattle.gc_graph.proofs.Lives.Event.{Pausing}
use Rattle.gc_graph.proofs.StepLives.{StepTells}
use Rattle.gc_graph.proofs.CommandLives.{step_tells}

-- ---- what the lines of a run tell

gone_or_there : (x : Life) → (x ≡ Gone) ⊎ (is_there x ≡ true)
gone_or_there Live = inr refl
gone_or_there Dead = inr refl
gone_or_there Gone = inl refl

not_both : (x y : Node) (w : ℕ) → AreApart x y → HasWord (extent_of x) w → HasWord (extent_of y) w → ⊥
not_both x y w apart h k =
    let begins_x : x.place ≤ w = h.0 in
    let ends_x : w < x.place + size_of x = h.1 in
    let begins_y : y.place ≤ w = k.0 in
    let ends_y : w < y.place + size_of y = k.1 in
    elim apart [ inl before ↦ omega arith | inr after ↦ omega arith ]

has_word_put : (x y : Node) (w : ℕ) → StaysPut x y → HasWord (extent_of y) w → HasWord (extent_of x) w
has_word_put x y w put h =
    let place : y.place ≡ x.place = put.place in
    let size : length y.object.values ≡ length x.object.values = put.size in
    let begins : y.place ≤ w = h.0 in
    let ends : w < y.place + size_of y = h.1 in
    (omega arith, omega arith)

module _ (lines : List Line) (nodes : List Node) (told : AreTold [] lines nodes) where
  told_split : (before : List Line) (said : Line) (after : List Line) → lines ≡ before ++ said ∷ after → IsToldAt [] before said after nodes
  told_split before said after e = told_at [] nodes before said after (subst (λ ls. AreTold [] ls nodes) e told)

  reused : (n m a x : ℕ) (before after : List Line) → lines ≡ before ++ L.Placed m a ∷ after → n < m
      → HasWord (extent_of (node_at nodes n)) x → HasWord (extent_of (node_at nodes m)) x → Contains before (L.Finalise n)
  reused n m a x before after e less h k =
      let at : IsToldAt [] before (L.Placed m a) after nodes = told_split before (L.Placed m a) after e in
      let made : IsMadeBy at.at m a at.next = at.tells in
      let number : m ≡ length at.at = made.number in
      let whole : length at.next ≡ length at.at + 1 = made.whole in
      elim (gone_or_there (node_at at.at n).life) [
        | inl gone ↦ elim (went [] at.at before n (omega arith) gone at.first) [ inl early ↦ absurd (omega (arith, early.0)) | inr is ↦ is ]
        | inr there ↦
            absurd (not_both (node_at at.next m) (node_at at.next n) x (made.apart n there)
            (has_word_put (node_at at.next m) (node_at nodes m) x (told_put at.next nodes after m (omega arith) at.rest) k)
            (has_word_put (node_at at.next n) (node_at nodes n) x (told_put at.next nodes after n (omega arith) at.rest) h))
      ]

  are_once : AreOnce lines nodes
  are_once = record {
    placed = λ n a b before after e c.
        let at : IsToldAt [] before (L.Placed n a) after nodes = told_split before (L.Placed n a) after e in
        let made : IsMadeBy at.at n a at.next = at.tells in
        not_placed at.next nodes after n b (omega (arith, made.number, made.whole)) at.rest c;
    at = λ n a before after e.
        let at : IsToldAt [] before (L.Placed n a) after nodes = told_split before (L.Placed n a) after e in
        let made : IsMadeBy at.at n a at.next = at.tells in
        (told_put at.next nodes after n (omega (arith, made.number, made.whole)) at.rest).place ∙ made.at;
    placed_before = λ n before after e.
        let at : IsToldAt [] before (L.Finalise n) after nodes = told_split before (L.Finalise n) after e in
        let buried : IsBuried at.at n at.next = at.tells in
        was_placed [] at.at before n (omega arith) (dead_below at.at n buried.dead) at.first;
    finalised = λ n before after e c.
        let at : IsToldAt [] before (L.Finalise n) after nodes = told_split before (L.Finalise n) after e in
        let buried : IsBuried at.at n at.next = at.tells in
        let below : n < length at.at = dead_below at.at n buried.dead in
        not_finalised at.next nodes after n (omega (arith, buried.whole)) buried.gone at.rest c;
    unread = λ n before after e c.
        let at : IsToldAt [] before (L.Finalise n) after nodes = told_split before (L.Finalise n) after e in
        let buried : IsBuried at.at n at.next = at.tells in
        let below : n < length at.at = dead_below at.at n buried.dead in
        not_read at.next nodes after n (omega (arith, buried.whole)) buried.gone at.rest c;
    before_reuse = reused;
    told = λ n l gone. elim (went [] nodes lines n l gone told) [ inl early ↦ absurd (omega (arith, early.0)) | inr is ↦ is ];
  }

-- ---- a pause

pause_of : (said : Line) (lines : List Line) → event_of said ≡ Pausing → TellsPause (said ∷ lines)
pause_of (L.Pause kept dead crew traced walked) lines e =
    (kept, dead, crew, traced, walked, line_first (L.Pause kept dead crew traced walked) lines)
pause_of said lines e = cc

later_pause : (said : Line) (lines : List Line) → TellsPause lines → TellsPause (said ∷ lines)
later_pause said lines (kept, dead, crew, traced, walked, c) =
    (kept, dead, crew, traced, walked, line_later said (L.Pause kept dead crew traced walked) lines c)

died_by : (old new : List Node) (lines : List Line) (n : ℕ) → IsDead new n → AreTold old lines new → IsDead old n ⊎ TellsPause lines
died_by old new [] n dead h = inl (sym (h.like n).life ∙ dead)
died_by old new (said ∷ lines) n dead h =
    elim (died_by h.mid new lines n dead h.after) [
      | inr pause ↦ inr (later_pause said lines pause)
      | inl early ↦ elim (died_at (event_of said) old h.mid n early h.tells) [ inl before ↦ inl before | inr is ↦ inr (pause_of said lines is) ]
    ]

-- ---- runs

module _ (setup : Setup) (some : 0 < setup.shape.pages) where
  abbrev AreAllowed : List Command → Type 0
  AreAllowed commands = All (IsAllowed (length setup.types)) commands

  one_valid : (old : State) (c : Command) (cs : List Command) (o : Outcome) (os : List Outcome) → IsValid setup old → AreAllowed (c ∷ cs)
      → Run setup old (c ∷ cs) (o ∷ os) → IsValid setup o.state
  one_valid old c cs o os valid allowed run =
      step_keeps_valid setup old o.state c o.piece o.lines some (All-head (IsAllowed (length setup.types)) c cs allowed) valid run.0

  one_told : (old : State) (c : Command) (cs : List Command) (o : Outcome) (os : List Outcome) → IsValid setup old → AreAllowed (c ∷ cs)
      → Run setup old (c ∷ cs) (o ∷ os) → StepTells old.nodes o.lines o.state.nodes
  one_told old c cs o os valid allowed run =
      step_tells setup old o.state c o.piece o.lines (sound_from setup old valid) (sound_from setup o.state (one_valid old c cs o os valid allowed run)) run.0

  rest_allowed : (c : Command) (cs : List Command) → AreAllowed (c ∷ cs) → AreAllowed cs
  rest_allowed c cs allowed = All-tail (IsAllowed (length setup.types)) c cs allowed

  run_told : (old : State) (commands : List Command) (outcomes : List Outcome) → IsValid setup old → AreAllowed commands → Run setup old commands outcomes
      → AreTold old.nodes (all_lines outcomes) (last_state old outcomes).nodes
  run_told old [] [] valid allowed run = look_same old.nodes
  run_told old [] (o ∷ os) valid allowed run = absurd run
  run_told old (c ∷ cs) [] valid allowed run = absurd run
  run_told old (c ∷ cs) (o ∷ os) valid allowed run =
      told_append old.nodes o.state.nodes (last_state o.state os).nodes o.lines (all_lines os) (one_told old c cs o os valid allowed run).told
      (run_told o.state cs os (one_valid old c cs o os valid allowed run) (rest_allowed c cs allowed) run.1)

  -- ---- who is gone stays gone

  abbrev IsGoneAt : State → ℕ → Type 0
  IsGoneAt s n = (n < length s.nodes) × ((node_at s.nodes n).life ≡ Gone)

  gone_next : (old : State) (c : Command) (cs : List Command) (o : Outcome) (os : List Outcome) (n : ℕ) → IsValid setup old → AreAllowed (c ∷ cs)
      → Run setup old (c ∷ cs) (o ∷ os) → IsGoneAt old n → IsGoneAt o.state n
  gone_next old c cs o os n valid allowed run gone =
      let told : AreTold old.nodes o.lines o.state.nodes = (one_told old c cs o os valid allowed run).told in
      let grows : length old.nodes ≤ length o.state.nodes = told_grows old.nodes o.state.nodes o.lines told in
      (omega (arith, gone.0), told_gone old.nodes o.state.nodes o.lines n gone.0 gone.1 told)

  gone_later : (j n : ℕ) (old : State) (commands : List Command) (outcomes : List Outcome) → IsValid setup old → AreAllowed commands
      → Run setup old commands outcomes → IsGoneAt old n → IsGoneAt (last_state old (take j outcomes)) n
  gone_later zero n old cs os valid allowed run gone = gone
  gone_later (suc j) n old [] [] valid allowed run gone = gone
  gone_later (suc j) n old [] (o ∷ os) valid allowed run gone = absurd run
  gone_later (suc j) n old (c ∷ cs) [] valid allowed run gone = absurd run
  gone_later (suc j) n old (c ∷ cs) (o ∷ os) valid allowed run gone =
      gone_later j n o.state cs os (one_valid old c cs o os valid allowed run) (rest_allowed c cs allowed) run.1
      (gone_next old c cs o os n valid allowed run gone)

  gone_between : (i j n : ℕ) (old : State) (commands : List Command) (outcomes : List Outcome) → i ≤ j → IsValid setup old → AreAllowed commands
      → Run setup old commands outcomes → IsGoneAt (last_state old (take i outcomes)) n → IsGoneAt (last_state old (take j outcomes)) n
  gone_between zero j n old cs os l valid allowed run gone = gone_later j n old cs os valid allowed run gone
  gone_between (suc i) zero n old cs os l valid allowed run gone = absurd (omega arith)
  gone_between (suc i) (suc j) n old [] [] l valid allowed run gone = gone
  gone_between (suc i) (suc j) n old [] (o ∷ os) l valid allowed run gone = absurd run
  gone_between (suc i) (suc j) n old (c ∷ cs) [] l valid allowed run gone = absurd run
  gone_between (suc i) (suc j) n old (c ∷ cs) (o ∷ os) l valid allowed run gone =
      gone_between i j n o.state cs os (omega arith) (one_valid old c cs o os valid allowed run) (rest_allowed c cs allowed) run.1 gone

  -- ---- who is finalised was condemned

  record Condemned (old : State) (outcomes : List Outcome) (j n : ℕ) : Type 0 where
    command : ℕ
    earlier : command < j
    outcome : Outcome
    is : slice_get outcomes command ≡ Some outcome
    live : IsLive (last_state old (take command outcomes)).nodes n
    dead : IsDead (last_state old (take (suc command) outcomes)).nodes n
    pauses : TellsPause outcome.lines

  dead_or_not : (x : Life) → (x ≡ Dead) ⊎ (x ≡ Dead → ⊥)
  dead_or_not Live = inr (λ e. cc)
  dead_or_not Dead = inl refl
  dead_or_not Gone = inr (λ e. cc)

  now_condemned : (old : State) (c : Command) (cs : List Command) (o : Outcome) (os : List Outcome) (j n : ℕ) (life : Life) → IsValid setup old
      → AreAllowed (c ∷ cs) → Run setup old (c ∷ cs) (o ∷ os) → (node_at old.nodes n).life ≡ life → (life ≡ Dead → ⊥) → IsDead o.state.nodes n
      → Condemned old (o ∷ os) (suc j) n
  now_condemned old c cs o os j n Dead valid allowed run is alive dead = absurd (alive refl)
  now_condemned old c cs o os j n Gone valid allowed run is alive dead =
      let tells : StepTells old.nodes o.lines o.state.nodes = one_told old c cs o os valid allowed run in
      elim (cases_lt n (length old.nodes)) [
        | inl l ↦ absurd (gone_not_dead _ (told_gone old.nodes o.state.nodes o.lines n l is tells.told) dead)
        | inr past ↦ absurd (tells.made n past dead)
      ]
  now_condemned old c cs o os j n Live valid allowed run is alive dead =
      elim (died_by old.nodes o.state.nodes o.lines n dead (one_told old c cs o os valid allowed run).told) [
        | inl early ↦ absurd (live_not_dead _ is early)
        | inr pause ↦ record { command = 0; earlier = omega arith; outcome = o; is = refl; live = is; dead = dead; pauses = pause }
      ]

  later_condemned : (old : State) (o : Outcome) (os : List Outcome) (j n : ℕ) → Condemned o.state os j n → Condemned old (o ∷ os) (suc j) n
  later_condemned old o os j n h = record {
    command = suc h.command;
    earlier = (let l = h.earlier in omega arith);
    outcome = h.outcome;
    is = h.is;
    live = h.live;
    dead = h.dead;
    pauses = h.pauses;
  }

  none_is : {T : Type 0} (x : T) → None ≡ Some x → ⊥
  none_is x e = cc

  some_is : (o x : Outcome) → Some o ≡ Some x → o ≡ x
  some_is o x e = cc

  condemned_from : (j n : ℕ) (old : State) (commands : List Command) (outcomes : List Outcome) (outcome : Outcome) → IsValid setup old
      → AreAllowed commands → Run setup old commands outcomes → (IsDead old.nodes n → ⊥) → slice_get outcomes j ≡ Some outcome
      → Contains outcome.lines (L.Finalise n) → Condemned old outcomes j n
  condemned_from j n old cs [] outcome valid allowed run alive is c = absurd (none_is outcome is)
  condemned_from j n old [] (o ∷ os) outcome valid allowed run alive is c = absurd run
  condemned_from zero n old (c ∷ cs) (o ∷ os) outcome valid allowed run alive is f =
      absurd (alive ((one_told old c cs o os valid allowed run).dead n
      (subst (λ (x : Outcome). Contains x.lines (L.Finalise n)) (sym (some_is o outcome is)) f)))
  condemned_from (suc j) n old (c ∷ cs) (o ∷ os) outcome valid allowed run alive is f =
      elim (dead_or_not (node_at o.state.nodes n).life) [
        | inl dead ↦ now_condemned old c cs o os j n (node_at old.nodes n).life valid allowed run refl alive dead
        | inr not_yet ↦
            later_condemned old o os j n
            (condemned_from j n o.state cs os outcome (one_valid old c cs o os valid allowed run) (rest_allowed c cs allowed) run.1 not_yet is f)
      ]

pub once : Once
once setup commands outcomes some allowed run =
    let valid : IsValid setup empty_state = empty_is_valid setup in (
      are_once (all_lines outcomes) (last_state empty_state outcomes).nodes (run_told setup some empty_state commands outcomes valid allowed run),
      record {
        gone = λ i j n l below gone. (gone_between setup some i j n empty_state commands outcomes l valid allowed run (below, gone)).1;
        condemned = λ j n outcome is f.
            let h : Condemned setup some empty_state outcomes j n =
            condemned_from setup some j n empty_state commands outcomes outcome valid allowed run (λ dead. cc) is f in
            let next : suc h.command ≡ h.command + 1 = omega arith in
            record {
              command = h.command;
              earlier = h.earlier;
              outcome = h.outcome;
              is = h.is;
              live = h.live;
              dead = subst (λ k. IsDead (state_after outcomes k).nodes n) next h.dead;
              pauses = h.pauses;
            };
      },
    )

-- ---- one step

pub nodes_stay_put : NodesStayPut
nodes_stay_put setup old command piece lines new some allowed valid step =
    let after : IsValid setup new = step_keeps_valid setup old new command piece lines some allowed valid step in
    let tells : StepTells old.nodes lines new.nodes =
    step_tells setup old new command piece lines (sound_from setup old valid) (sound_from setup new after) step in
    record {
      none_lost = told_grows old.nodes new.nodes lines tells.told;
      places = λ n l. (told_put old.nodes new.nodes lines n l tells.told).place;
    }
