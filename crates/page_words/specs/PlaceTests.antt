-- The tests of the step machine on bodies tell what is said of bodies as a set.
use Rattle.std.proofs.Common.{◌≡◌, ℕ, List, true, false, eqb, leb, ltb}
use Rattle.std.proofs.lemmas.Bool.{both_ways, eq-eqb, eqb-true, and_parts, and_from, le-leb, lt-ltb, leb-true, ltb-true, false_from_ne_true}
use Rattle.gc_graph.specs.Members.{any_member, any_from}
use Rattle.marker_core.specs.declared.states.Body.{Body}
use Rattle.marker_core.specs.Bodies.{end_of, body_has_word, is_place, in_body, IsPlace, IsInBody}

-- an address that passes the test for places is the place of a body
pub place_of_test : (bodies : List Body) (a : ℕ) → is_place bodies a ≡ true → IsPlace bodies a
place_of_test bodies a is =
    let found = any_member (λ (b : Body). eqb b.place a) bodies is in (found.0, found.1, eqb-true found.0.place a found.2)

-- the place of a body passes the test for places
pub test_of_place : (bodies : List Body) (a : ℕ) → IsPlace bodies a → is_place bodies a ≡ true
test_of_place bodies a at = any_from (λ (c : Body). eqb c.place a) bodies at.0 at.1 (eq-eqb at.0.place a at.2)

pub test_of_word : (bodies : List Body) (a : ℕ) → IsInBody bodies a → in_body bodies a ≡ true
test_of_word bodies a at =
    any_from (body_has_word a) bodies at.0 at.1
    (and_from (leb at.0.place a) (ltb a (end_of at.0)) (le-leb at.0.place a at.2) (lt-ltb a (end_of at.0) at.3))

pub outside_of_test : (bodies : List Body) (a : ℕ) → in_body bodies a ≡ false → IsInBody bodies a → ⊥
outside_of_test bodies a out at = both_ways (in_body bodies a) out (test_of_word bodies a at)

pub test_of_outside : (bodies : List Body) (a : ℕ) → (IsInBody bodies a → ⊥) → in_body bodies a ≡ false
test_of_outside bodies a out =
    false_from_ne_true (in_body bodies a)
    (λ is.
    let found = any_member (body_has_word a) bodies is in
    let parts = and_parts (leb found.0.place a) (ltb a (end_of found.0)) found.2 in
    out (found.0, found.1, leb-true found.0.place a parts.0, ltb-true a (end_of found.0) parts.1))
