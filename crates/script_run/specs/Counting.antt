-- How a device over a standard stream counts its faults.
use Rattle.std.specs.Prelude.{◌≡◌, ℕ, Result, Ok, Err}
use Rattle.text_devices.specs.Causes.{risen}

-- a failure is counted once, and nothing else is
abbrev pub CountsFaults : {T E : Type 0} → ℕ → ℕ → Result T E → Type 0
CountsFaults before now (Ok value) = now ≡ before
CountsFaults before now (Err failed) = now ≡ risen before
