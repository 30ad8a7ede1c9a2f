-- Input that was read, and the limits that it keeps.
use Rattle.std.proofs.Common.{◌≡◌, ℕ, ◌≤◌, List, length, take, drop, Option, Some, None, ap, ◌∙◌, subst, inl, inr, arith}
use Rattle.std.specs.Prelude.{min}
use Rattle.std.proofs.lemmas.List.{take_all, drop_all, length-take}
use Rattle.std.proofs.lemmas.Bool.{cases_lt}
use Rattle.gc_graph.specs.Script.{IsInLimits}
use Rattle.text_devices.specs.Devices.{IsReadFrom}
use Rattle.script_run.specs.Headline.{IsReadWhole}

-- fewer bytes than were asked for are all that there were
all_of : (old bytes : List ℕ) → bytes ≡ take 16777217 old → length bytes ≤ 16777216 → bytes ≡ old
all_of old bytes is few =
    let asked : length bytes ≡ min 16777217 (length old) = ap length is ∙ length-take 16777217 old in
    is ∙ take_all 16777217 old (omega arith)

few_in_limits : (bytes : List ℕ) → IsInLimits bytes → length bytes ≤ 16777216
few_in_limits bytes limits =
    elim (cases_lt 16777216 (length bytes)) [ inl over ↦ absurd (limits (inl over)) | inr few ↦ few ]

pub read_whole_of : (old new : Option (List ℕ)) (bytes : List ℕ) → IsReadFrom old new 16777216 bytes → IsInLimits bytes → IsReadWhole old new bytes
read_whole_of None new bytes read limits = read
read_whole_of (Some old) new bytes read limits =
    let few : length bytes ≤ 16777216 = few_in_limits bytes limits in
    let all : bytes ≡ old = all_of old bytes read.0 few in
    (all, read.1 ∙ ap Some (ap (λ (b : List ℕ). drop (length b) old) all ∙ drop_all (length old) old (omega arith)))

-- what was read of an input within the limits is all of it
pub all_read : (left new : Option (List ℕ)) (bytes whole : List ℕ) → left ≡ Some whole → IsReadFrom left new 16777216 bytes → IsInLimits whole → bytes ≡ whole
all_read left new bytes whole is read limits =
    let from : IsReadFrom (Some whole) new 16777216 bytes = subst (λ (l : Option (List ℕ)). IsReadFrom l new 16777216 bytes) is read in
    from.0 ∙ take_all 16777217 whole (omega (arith, few_in_limits whole limits))
