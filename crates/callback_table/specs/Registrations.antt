-- The registrations of both kinds, as one value.
use Rattle.std.specs.Prelude.{ℕ, ◌-◌, ◌==◌, not, List, [], ◌∷◌, ◌++◌, length, map, take, drop, if◌then◌else◌}
use Rattle.callback_table.specs.declared.registrations.LastRegistered.{LastRegistered}
use Rattle.callback_table.specs.declared.registrations.Registrations.{Registrations}
use Rattle.callback_table.specs.Registry.{registered, placed_at}
use Rattle.callback_table.specs.WeakRegistry.{WeakRegistration, weakly_registered, weakly_placed_at}

-- the weak callbacks of a node are one registration, and where there are none there is none
abbrev pub weakly_registered_all : ℕ → ℕ → List ℕ → List WeakRegistration
weakly_registered_all node place callbacks = if length callbacks == 0 then [] else weakly_registered node place callbacks ∷ []

-- the prefinalizers and the weak callbacks are registered for the node at the place, behind the others
abbrev pub registered_for : ℕ → ℕ → List ℕ → List ℕ → Registrations → Registrations
registered_for node place prefinalizers weak r = record {
  prefinalizers = record r.prefinalizers { entries = r.prefinalizers.entries ++ map (registered node place) prefinalizers };
  weak_callbacks = record r.weak_callbacks { entries = r.weak_callbacks.entries ++ weakly_registered_all node place weak };
}

-- how many of the last registrations these are
abbrev pub last_of : List ℕ → List ℕ → LastRegistered
last_of prefinalizers weak = record { prefinalizers = length prefinalizers; weakly = not (length weak == 0) }

-- of the weak ones the last is left out, where it is one of these
abbrev pub weakly_without : LastRegistered → List WeakRegistration → List WeakRegistration
weakly_without last entries = if last.weakly then take (length entries - 1) entries else entries

-- or it got the place
abbrev pub weakly_placed_last : LastRegistered → ℕ → List WeakRegistration → List WeakRegistration
weakly_placed_last last place entries =
    if last.weakly
    then take (length entries - 1) entries ++ map (weakly_placed_at place) (drop (length entries - 1) entries)
    else entries

-- the registrations without the last ones
abbrev pub without_last : LastRegistered → Registrations → Registrations
without_last last r = record {
  prefinalizers =
      record r.prefinalizers { entries = take (length r.prefinalizers.entries - last.prefinalizers) r.prefinalizers.entries };
  weak_callbacks = record r.weak_callbacks { entries = weakly_without last r.weak_callbacks.entries };
}

-- the last ones got the place
abbrev pub placed_last : LastRegistered → ℕ → Registrations → Registrations
placed_last last place r = record {
  prefinalizers =
      record r.prefinalizers {
        entries =
            take (length r.prefinalizers.entries - last.prefinalizers) r.prefinalizers.entries
            ++ map (placed_at place) (drop (length r.prefinalizers.entries - last.prefinalizers) r.prefinalizers.entries);
      };
  weak_callbacks = record r.weak_callbacks { entries = weakly_placed_last last place r.weak_callbacks.entries };
}
