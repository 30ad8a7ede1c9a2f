-- Every step keeps a state valid, and the first state is.
use Rattle.std.proofs.Common.{◌<◌, true, false, List, [], length, Some, None, refl, arith, true≢false, sym}
use Rattle.std.proofs.lemmas.List.Elements.{All-nil, All-replicate}
use Rattle.gc_graph.specs.declared.command.Command.{Command}
use Rattle.gc_graph.specs.declared.command.Command.TheVariants as C
use Rattle.gc_graph.specs.declared.line.Line.{Line}
use Rattle.gc_graph.specs.declared.region.Entry.{Entry}
use Rattle.gc_graph.specs.State.{Setup, State, Registration, empty_state, IsLive}
use Rattle.gc_graph.specs.State.RegionSlot.{Vacant}
use Rattle.gc_graph.specs.Fields.{content_of}
use Rattle.gc_graph.specs.May.{weakly_read}
use Rattle.gc_graph.specs.Outcomes.{answered}
use Rattle.gc_graph.specs.ObjectSteps.{part_of}
use Rattle.gc_graph.specs.Valid.{IsTyped}
use Rattle.gc_graph.specs.Step.{Step}
use Rattle.gc_graph.specs.Lawful.{IsAllowed}
use Rattle.gc_graph.specs.ValidLaw.{StepKeepsValid, OrdersKeepValid, EmptyIsValid}
use Rattle.gc_graph.proofs.Sound.{SlotNames, RegionNames, IsSound, sound_from, valid_from}
use Rattle.gc_graph.proofs.ValidCases.{landed}
use Rattle.gc_graph.proofs.ValidHandles.{Root, slot_sound, weak_sound, stack_sound}
use Rattle.gc_graph.proofs.WeakReads.{read_sound}
use Rattle.gc_graph.proofs.Effects.{Effect, with_effect, Fits}
use Rattle.gc_graph.proofs.Effects.Effect.{Refuses, Tells, Fills, Empties, Gets, Weakens, Stacks, Sets, Puts, Pairs}
use Rattle.gc_graph.proofs.PlainSteps.{plain_step}
use Rattle.gc_graph.proofs.ValidRegion.{others_sound, export_keeps, import_keeps, at_keeps, go_keeps, join_keeps}
use Rattle.gc_graph.proofs.ValidWrites.{fit_sound, reference_fit, pair_fit, plain_fit, from_content, parts_of}
use Rattle.gc_graph.proofs.ValidSweeps.{sweep_keeps, sweep_all_keeps}
use Rattle.gc_graph.proofs.ValidCycles.{gc_start_keeps, gc_step_keeps, gc_finish_keeps, gc_now_keeps, stat_keeps}
use Rattle.gc_graph.proofs.ValidNew.{new_keeps}

-- ---- plain commands

effect_sound : (setup : Setup) (old : State) (command : Command) (lines : List Line) (effect : Effect) → IsSound setup old → Fits old command lines effect
    → IsSound setup (with_effect old effect)
effect_sound setup old command lines (Refuses why) g fits = g
effect_sound setup old command lines (Tells w) g fits = g
effect_sound setup old command lines (Fills q content) g fits = slot_sound setup old q content g (fits.1 setup g)
effect_sound setup old command lines (Empties q) g fits = slot_sound setup old q None g tt
effect_sound setup old command lines (Gets true q n) g fits =
    let read = read_sound setup old n g (fits.node setup g) in slot_sound setup (weakly_read old n) q (Some n) read.0 read.1
effect_sound setup old command lines (Gets false q n) g fits = slot_sound setup old q (Some n) g (fits.node setup g)
effect_sound setup old command lines (Weakens w content) g fits = weak_sound setup old w content g (fits.1 setup g)
effect_sound setup old command lines (Stacks stack) g fits = stack_sound setup old stack g (fits.1 setup g)
effect_sound setup old command lines (Sets n f content) g fits =
    fit_sound setup old n _ g
    (reference_fit setup old n f (content_of content) g (fits.0.root setup g) fits.0.allows (from_content old content (fits.1 setup g)))
effect_sound setup old command lines (Puts n f w) g fits = fit_sound setup old n _ g (plain_fit setup old n f w g (fits.0.root setup g) fits.0.allows)
effect_sound setup old command lines (Pairs n f key value) g fits =
    let names = fits.1 setup g in
    fit_sound setup old n _ g
    (pair_fit setup old n f (part_of key value) (part_of value key) g (fits.0.root setup g) fits.0.allows (parts_of old key value names.0 names.1))

-- ---- every command

step_sound : (setup : Setup) (old new : State) (command : Command) (piece : List Entry) (lines : List Line) → 0 < setup.shape.pages
    → IsAllowed (length setup.types) command → IsSound setup old → Step setup old command piece lines new → IsSound setup new
step_sound setup old new (C.New p t e) piece lines pages a g h = new_keeps setup old new p t e lines a.1 g h.1
step_sound setup old new C.GcStart piece lines pages a g h = gc_start_keeps setup old new piece lines g h
step_sound setup old new (C.GcStep n) piece lines pages a g h = gc_step_keeps setup old new n lines g h.1
step_sound setup old new (C.GcFinish want) piece lines pages a g h = gc_finish_keeps setup want old new piece lines pages g h
step_sound setup old new (C.GcNow want) piece lines pages a g h = gc_now_keeps setup want old new piece lines pages g h
step_sound setup old new (C.Sweep n) piece lines pages a g h = sweep_keeps setup old new n lines g h.1
step_sound setup old new C.SweepAll piece lines pages a g h = sweep_all_keeps setup old new lines g h.1
step_sound setup old new C.Stat piece lines pages a g h = stat_keeps setup old new lines g h.1
step_sound setup old new (C.Export p x) piece lines pages a g h = export_keeps setup old new p x piece lines g h
step_sound setup old new (C.Import x p) piece lines pages a g h = import_keeps setup old new x p piece lines g h
step_sound setup old new (C.At j order) piece lines pages a g h = at_keeps setup old new j order lines g h.1
step_sound setup old new C.ThreadsGo piece lines pages a g h = go_keeps setup old new lines g h.1
step_sound setup old new C.ThreadsJoin piece lines pages a g h = join_keeps setup old new piece lines g h
step_sound setup old new command piece lines pages a g h =
    let c = plain_step setup old new command piece lines refl h in
    landed setup new (answered (with_effect old c.effect)) c.after (effect_sound setup old command lines c.effect g c.fits)

pub step_keeps_valid : StepKeepsValid
step_keeps_valid setup old new command piece lines pages allowed valid step =
    valid_from setup new (step_sound setup old new command piece lines pages allowed (sound_from setup old valid) step)

pub orders_keep_valid : OrdersKeepValid
orders_keep_valid setup s entries others valid =
    valid_from setup _ (others_sound setup s entries others (sound_from setup s valid))

-- ---- the first state

empty_sound : (setup : Setup) → IsSound setup empty_state
empty_sound setup = record {
  heap = record {
    typed = All-nil (IsTyped setup 0);
    named = λ n live k d l. absurd (omega arith);
    apart = λ m n ne a b. absurd (true≢false (sym a));
    within = λ n a. absurd (true≢false (sym a));
    pure = record {
      one_bucket = λ page m n h k. absurd (true≢false (sym h.there));
      alone = λ page m n h k large. absurd (true≢false (sym h.there));
    };
  };
  slots = All-replicate (SlotNames (Root empty_state)) 256 None tt;
  weak = All-replicate (SlotNames (IsLive [])) 64 None tt;
  stack = λ k d l. absurd (omega arith);
  region = All-replicate (RegionNames (Root empty_state) (IsLive [])) 32 Vacant tt;
  registered = All-nil (λ (r : Registration). IsLive [] r.node);
  settled = λ n dead. cc;
  may = tt;
}

pub empty_is_valid : EmptyIsValid
empty_is_valid setup = valid_from setup empty_state (empty_sound setup)
