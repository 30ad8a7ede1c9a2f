-- Whole histories: replies, and the pieces of a run.
use Rattle.std.proofs.Common.{◌≡◌, ℕ, zero, suc, Bool, false, List, [], ◌∷◌, take, Some, replicate, refl, sym, subst}
use Rattle.std.specs.List.{slice_get}
use Rattle.std.proofs.lemmas.List.Concat.{flat_map-cons}
use Rattle.gc_graph.specs.declared.command.Command.{Command}
use Rattle.gc_graph.specs.declared.region.Entry.{Entry}
use Rattle.gc_graph.specs.State.{Setup, State, RegionSlot, empty_state}
use Rattle.gc_graph.specs.State.RegionSlot.{Vacant}
use Rattle.gc_graph.specs.History.{IsLegalFrom, replayed, reply_of, region_after, started_after}
use Rattle.gc_graph.specs.Lawful.{Outcome, Run, last_state, history_of}
use Rattle.gc_graph.specs.HistoryLaw.{Follows, RepliesAreOfOneThread, RunsAreReplayed}
use Rattle.gc_graph.proofs.HistoryLaws.{quiet, follows-append}
use Rattle.gc_graph.proofs.StepFollows.{step_follows}

reply_at : (region : List RegionSlot) (started : Bool) (history : List Entry) (i : ℕ) (entry : Entry) → IsLegalFrom region started history
    → slice_get history i ≡ Some entry → entry.reply ≡ reply_of (replayed region (take i history)) entry.op
reply_at region started [] i entry l e = cc
reply_at region started (x ∷ xs) zero entry l e =
    let same : x ≡ entry = cc in
    subst (λ (y : Entry). y.reply ≡ reply_of region y.op) same l.0
reply_at region started (x ∷ xs) (suc i) entry l e = reply_at (region_after region x.op) (started_after started x.op) xs i entry l.2 e

pub replies_are_of_one_thread : RepliesAreOfOneThread
replies_are_of_one_thread history i entry l e = reply_at (replicate 32 Vacant) false history i entry l e

run_follows : (setup : Setup) (old : State) (commands : List Command) (outcomes : List Outcome) → Run setup old commands outcomes
    → Follows old (history_of outcomes) (last_state old outcomes)
run_follows setup old [] [] r = quiet old old [] refl refl refl
run_follows setup old [] (o ∷ os) r = absurd r
run_follows setup old (c ∷ cs) [] r = absurd r
run_follows setup old (c ∷ cs) (o ∷ os) r =
    subst (λ h. Follows old h (last_state o.state os)) (sym (flat_map-cons (λ (x : Outcome). x.piece) o os))
    (follows-append old o.state (last_state o.state os) o.piece (history_of os) (step_follows setup old o.state c o.piece o.lines r.0)
    (run_follows setup o.state cs os r.1))

pub runs_are_replayed : RunsAreReplayed
runs_are_replayed setup commands outcomes r =
    let f : Follows empty_state (history_of outcomes) (last_state empty_state outcomes) = run_follows setup empty_state commands outcomes r in
    record { legal = f.legal; slots = sym f.slots }
