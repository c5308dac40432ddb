-- The atlas that has the principal type alone, with every facet open, is right.
use Rattle.std.proofs.Common.{◌≡◌, ℕ, zero, suc, ℤ, ◌<◌, ◌≤◌, refl, arith, List, [], ◌∷◌, length, get_or}
use Rattle.lt_model.specs.Cones.{Cone, IsRightCone}
use Rattle.lt_model.specs.Limits.{span, span_limit}
use Rattle.lt_model.specs.Principal.{IsPrincipal}
use Rattle.lt_model.specs.Walls.{IsAcross}
use Rattle.lt_model.specs.Atlases.{Classes, cross, no_mark, entry_at, facets, opens, one_if_stuck, stuck}
use Rattle.lt_model.specs.RightAtlases.{AreClasses, AreRight, IsRightEntry}
use Rattle.lt_core.specs.Starts.{first_entry}
use Rattle.lt_core.proofs.Counting.{count-opens}
use Rattle.lt_core.proofs.Undo.{length-opens}

-- no open mark is a cross, nor what stands where no facet is
no_cross : (n i k : ℕ) (u : List (List ℤ)) → get_or (opens n) i no_mark ≡ cross k u → ⊥
no_cross zero i k u e = absurd (cc)
no_cross (suc n) zero k u e = absurd (cc)
no_cross (suc n) (suc i) k u e = no_cross n i k u e

none_crossed : (n : ℕ) (p q k : ℕ) (u : List (List ℤ)) → get_or (get_or (opens n ∷ []) p []) q no_mark ≡ cross k u → ⊥
none_crossed n zero q k u e = no_cross n q k u e
none_crossed n (suc p) q k u e = absurd (cc)

pub first_right : (d : ℕ) (t : Classes) (c : Cone) → IsPrincipal d t → AreClasses d t → span t ≤ span_limit d → IsRightCone d t c → AreRight (IsAcross d) d (first_entry t c ∷ []) (opens (length (facets (first_entry t c))) ∷ [])
first_right d t c p classes narrow right = record {
  occupied = omega arith;
  start = p;
  no_origin = refl;
  lists = refl;
  each = each;
  origins = λ k a b. absurd (omega (arith, a, b));
  crosses = λ q k u e. absurd (none_crossed (length (facets (first_entry t c))) q.0 q.1 k u e);
  apart = λ k l hk hl ne e. absurd (ne (omega (arith, hk, hl)));
  entries = entries;
}
  where
    each : (k : ℕ) → k < 1 → length (get_or (opens (length (facets (first_entry t c))) ∷ []) k []) ≡ length (facets (entry_at (first_entry t c ∷ []) k))
    each zero l = length-opens (length (facets (first_entry t c)))
    each (suc k) l = absurd (omega arith)

    entries : (k : ℕ) → k < 1 → IsRightEntry d (entry_at (first_entry t c ∷ []) k)
    entries zero l = record { classes = classes; narrow = narrow; cone = right }
    entries (suc k) l = absurd (omega arith)

pub none_stuck : (n : ℕ) → stuck (opens n ∷ []) ≡ 0
none_stuck n = let e = count-opens one_if_stuck n refl in omega (arith, e)
