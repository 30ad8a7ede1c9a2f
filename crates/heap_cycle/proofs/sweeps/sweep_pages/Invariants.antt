use Rattle.std.proofs.Common.{◌≡◌, ◌+◌, [], vec_capacity}
use Rattle.heap_roots.specs.Sweeping.{cursor_at}
use Rattle.heap_roots.specs.Finalising.{AreFewTold}
use Rattle.heap_cycle.specs.Finalising.{SweepsOn}
use Rattle.heap_cycle.specs.Parts.{setup_of, state_of, IsReady}
use Rattle.heap_cycle.proofs.sweeps.sweep_pages.Given as goal

abbrev pub invariant-loop-page : goal.invariant-loop-page
invariant-loop-page l = record {
  ready : IsReady l.parts;
  goes : SweepsOn l.initial.parts.objects.shape (state_of l.initial.parts) l.parts.cycle.sweep.cursor [] l.finalised.items (state_of l.parts);
  cursor : l.parts.cycle.sweep.cursor ≡ l.initial.parts.cycle.sweep.cursor + l._page;
  told : AreFewTold l.parts.objects.shape (cursor_at l.parts.objects.shape l.parts.cycle.sweep) l.parts.objects.seat l.finalised.items;
  grey : l.parts.objects.grey ≡ l.initial.parts.objects.grey;
  setup : setup_of l.parts ≡ setup_of l.initial.parts;
  ordinal : l.parts.cycle.rest.ordinal ≡ l.initial.parts.cycle.rest.ordinal;
  region : l.parts.region ≡ l.initial.parts.region;
  room : vec_capacity l.finalised ≡ vec_capacity l.initial.finalised;
}
