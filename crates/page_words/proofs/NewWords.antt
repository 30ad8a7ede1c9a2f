-- New words are the state with which all begins.
use Rattle.std.proofs.Common.{ℕ, ◌+◌, ◌≤◌, List, [], length, replicate, All, true, refl, arith}
use Rattle.std.proofs.lemmas.List.{length-map}
use Rattle.std.proofs.lemmas.List.Elements.{All-map}
use Rattle.gc_graph.specs.declared.kind.Kind.{Kind}
use Rattle.gc_graph.specs.State.{ObjectType}
use Rattle.atomic_table.specs.Table.{opening}
use Rattle.marker_core.specs.Core.{IsCoreOk}
use Rattle.marker_core.specs.Idle.{idle_view}
use Rattle.marker_core.specs.Layout.{stop_at}
use Rattle.marker_core.specs.Laws.{IdleIsOk}
use Rattle.marker_core.specs.Seats.{core_of}
use Rattle.marker_core.specs.Views.{spent_view}
use Rattle.page_words.specs.Roles.{kind_lists}
use Rattle.page_words.specs.Heaps.{IsCount}
use Rattle.page_words.specs.Rule.{RuleView, side_of, owner_view, IsCore, IsOwner}

-- the first view
abbrev pub new_view : ℕ → List ObjectType → RuleView
new_view count types = record { owner = true; count = count; types = types; mutator = idle_view; marker = spent_view }

module _ (law : IdleIsOk) (count : ℕ) (types : List ObjectType) (is : IsCount count) (few : length types ≤ 16383)
    (narrow : All (λ (type : ObjectType). length type.kinds ≤ 64) types) where
  new_core : IsCoreOk (core_of (side_of (new_view count types)) (replicate (stop_at count + 1) 0) [])
  new_core = law count (kind_lists types) (omega (arith, is.most)) is.bits
      (record {
        few = omega (arith, few, length-map types (λ (type : ObjectType). type.kinds));
        short = All-map (λ (kinds : List Kind). length kinds ≤ 64) (λ (type : ObjectType). type.kinds) types narrow;
      })

  pub new_words : IsCore (opening (replicate (stop_at count + 1) 0) [] (owner_view (new_view count types)))
  new_words = (new_view count types, [], refl, new_core)

  pub new_seat : IsOwner (owner_view (new_view count types), [])
  new_seat = record {
    empty = refl;
    owns = refl;
    sure = record { count = is; words = replicate (stop_at count + 1) 0; markers = []; ok = new_core; none_noted = λ off. refl };
  }
