-- Markers that were started, as the crew's own code has them.
use Rattle.marker_crew.specs.declared.runners.Runner.{Runner}
use Rattle.marker_crew.specs.declared.runners.Runner.TheVariants.{There, Here}
use Rattle.marker_crew.specs.Crews.{Marker}

-- a marker as it began, on a thread of its own or on the caller's
abbrev pub began_as : Runner → Marker
began_as (There handle) = handle.promise.0.value
began_as (Here began) = began
