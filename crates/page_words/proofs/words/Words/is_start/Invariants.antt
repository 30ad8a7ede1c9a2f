use Rattle.std.proofs.Common.{◌%◌}
use Rattle.marker_core.specs.Layout.{bit_is_set}
use Rattle.marker_core.specs.MarkerSeats.{marker_found_start}
use Rattle.page_words.specs.Markers.{marker_side}
use Rattle.page_words.proofs.words.Words.is_start.Given as goal

abbrev pub ghosts-start_bits_at : goal.ghosts-start_bits_at
ghosts-start_bits_at a = record { next = λ n. marker_found_start (marker_side a.seat.now) a.a (bit_is_set n (a.a % 64)) }
