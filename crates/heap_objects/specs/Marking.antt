-- What is kept of marking, while it goes on and between collections.
use Rattle.std.specs.Prelude.{◌≡◌, ℕ, ◌+◌, ◌<◌, false, true, List, [], All, Contains, drop, length, replicate, sum_by}
use Rattle.mark_worklist.specs.Lists.{no_items}
use Rattle.mark_worklist.specs.Refusals.{Refusals}
use Rattle.mark_worklist.specs.declared.marking.Marking.{Marking}
use Rattle.page_words.specs.Seat.{SeatView}
use Rattle.marker_crew.specs.Notes.{NotesState, no_notes, group_at}
use Rattle.marker_crew.specs.Crews.{Marker}
use Rattle.heap_objects.specs.declared.marking.Grey.{Grey}
use Rattle.heap_objects.specs.Refused.{RefusedCounts, none_refused}

-- what is kept of marking: the owner's marking state and notes of pairs, the notes that markers brought back, how many markers
-- the heap has, and those that run, as they began; how many objects the steps of the cycle traced, and the places of those that they
-- found traced beside markers; how much had been refused when it began, and how many pushes on the lists of earlier cycles
pub record GreyView : Type 0 where
  pub marking : Marking
  pub notes : NotesState
  pub others : List NotesState
  pub markers : ℕ
  pub running : List Marker
  pub traced : ℕ
  pub found : List ℕ
  pub since : RefusedCounts
  pub earlier : ℕ

-- what the owner keeps, as it is told: the first group of notes is its own
abbrev pub grey_of : Grey → GreyView
grey_of grey = record {
  marking = grey.marking;
  notes = group_at grey.crew.notes 0;
  others = drop 1 grey.crew.notes;
  markers = grey.crew.markers;
  running = grey.crew.running;
  traced = grey.traced;
  found = grey.found.value;
  since = grey.since.value;
  earlier = grey.earlier.value;
}

-- what a new heap with so many markers keeps of it: nothing
abbrev pub no_grey : ℕ → GreyView
no_grey markers = record {
  marking = record { on = false; overflow = false; list = no_items };
  notes = no_notes;
  others = replicate markers no_notes;
  markers = markers;
  running = [];
  traced = 0;
  found = [];
  since = none_refused;
  earlier = 0;
}

-- how many pushes and notes were refused since the heap was made
abbrev pub refused_in : GreyView → RefusedCounts
refused_in g = record {
  pushes = g.earlier + g.marking.list.refused;
  notes = g.notes.refused + (sum_by (λ x. x.refused) g.others + sum_by (λ m. m.notes.refused) g.running);
}

-- the refused pushes, as the marking state tells of them and the lists count them
abbrev pub pushes_in : GreyView → Refusals
pushes_in g = record { told = g.marking.overflow; count = (refused_in g).pushes }

-- the refused notes, as the owner's group tells of them and all groups count them
abbrev pub notes_in : GreyView → Refusals
notes_in g = record { told = g.notes.overflow; count = (refused_in g).notes }

-- while markers run, what is told as found traced the seat found so
abbrev pub HasFound : SeatView → GreyView → Type 0
HasFound v g = 0 < length g.running → (p : ℕ) → Contains g.found p → Contains v.done p

-- nothing is noted in the group, and no note was refused
pub record IsCleared (notes : NotesState) : Type 0 where
  pub none_noted : notes.notes ≡ []
  pub unrefused : notes.overflow ≡ false

-- no marking goes on and no marker runs, each of which has its notes here; nothing is listed or noted, no share of the list is out,
-- which has none without markers, and nothing was refused
pub record IsClear (grey : GreyView) : Type 0 where
  pub off : grey.marking.on ≡ false
  pub unrefused : grey.marking.overflow ≡ false
  pub none_listed : grey.marking.list.items ≡ []
  pub whole : grey.marking.list.whole ≡ true
  pub unshared : grey.markers ≡ 0 → grey.marking.list.shares ≡ []
  pub own : IsCleared grey.notes
  pub others : All IsCleared grey.others
  pub many : length grey.others ≡ grey.markers
  pub none_running : grey.running ≡ []
