use Rattle.std.proofs.Common.{◌≡◌, ℕ, ◌≤◌, length, take, get_or}
use Rattle.std.specs.Io.{StartsWith}
use Rattle.std.specs.List.{Contains}
use Rattle.type_table.specs.Types.{declared_kinds}
use Rattle.type_table.specs.Layouts.{kinds_of_words}
use Rattle.marker_core.specs.declared.states.Body.{Body}
use Rattle.page_words.specs.Seat.{OnlyLooked}
use Rattle.prefinalizer_effects.specs.Shown.{shown_of_kinds}
use Rattle.prefinalizer_effects.proofs.shown.shown_words.Given as goal

abbrev pub invariant-loop-i : goal.invariant-loop-i
invariant-loop-i l = record {
  view : OnlyLooked l.fn.seat l.seat;
  looked : StartsWith l.seat.looked l.fn.seat.looked;
  long : length l.into ≡ 64;
  rest : (k : ℕ) → l.i ≤ k → get_or l.into k 0 ≡ get_or l.fn.into k 0;
  front : (b : Body) → Contains l.fn.seat.bodies b → b.place ≡ l.place
      → take l.i l.into ≡ take l.i (shown_of_kinds (kinds_of_words (declared_kinds l.fn.seat.types b.ty)) b.fields);
}
