-- The ways on from a point, as the recursion lists them.
use Rattle.std.proofs.Common.{◌≡◌, ◌≢◌, ℕ, zero, suc, ◌-◌, ◌+◌, ℤ, pos, negsuc, ◌+ℤ◌, ◌<◌, ◌≤◌, refl, ap, arith, sym, ◌∙◌, List, [], ◌∷◌, ◌++◌, map, length, append_assoc, length-append, get_or, take}
use Rattle.std.proofs.lemmas.Int.{ints}
use Rattle.std.proofs.Math.Seq.{take-nil}
use Rattle.lt_model.specs.Vectors.{plus, unit}
use Rattle.lt_model.specs.Facets.{number_at}
use Rattle.lt_principal.specs.Paths.{when_zero, ways_below, ways, before_each, last_point}
use Rattle.lt_model.specs.Simplices.{AllOfDimension}
use Rattle.lt_geometry.proofs.Closed.{get_dimension, get_last}
use Rattle.lt_geometry.proofs.Paths.{step_own, step_other}

pub raised_there : (x : List ℤ) (k : ℕ) → k < length x → number_at k x ≡ pos 0 → number_at k (plus x (unit (length x) k)) ≡ pos 1
raised_there x k h z = step_own (length x) k x h ∙ ap (λ (n : ℤ). n +ℤ pos 1) z

pub raised_elsewhere : (x : List ℤ) (k i : ℕ) → i ≢ k → number_at i (plus x (unit (length x) k)) ≡ number_at i x
raised_elsewhere x k i h = step_other (length x) k i x h

before_each-append : (path : List (List ℤ)) (all more : List (List (List ℤ))) → before_each path (all ++ more) ≡ before_each path all ++ before_each path more
before_each-append path [] more = refl
before_each-append path (t ∷ all) more = ap (λ l. (path ++ t) ∷ l) (before_each-append path all more)

before_each-next : (path : List (List ℤ)) (x : List ℤ) (all : List (List (List ℤ))) → before_each path (map (λ t. x ∷ t) all) ≡ before_each (path ++ x ∷ []) all
before_each-next path x [] = refl
before_each-next path x (t ∷ all) = rw (append_assoc path (x ∷ []) t) (ap (λ l. (path ++ x ∷ t) ∷ l) (before_each-next path x all))

pub some_steps : (d n : ℕ) (x : List ℤ) → n ≢ 0 → ways d n x ≡ ways_below d (ways d (n - 1)) x d
some_steps d zero x h = absurd (h refl)
some_steps d (suc n) x h =
    let e : suc n - 1 ≡ n = omega arith in
    rw e refl

below : (d : ℕ) (rest : List ℤ → List (List (List ℤ))) (x : List ℤ) (j : ℕ) → j < d →
    ways_below d rest x (d - j) ≡ when_zero (number_at (d - 1 - j) x) (map (λ t. plus x (unit d (d - 1 - j)) ∷ t) (rest (plus x (unit d (d - 1 - j))))) ++ ways_below d rest x (d - (j + 1))
below d rest x j h =
    let e : d - j ≡ suc (d - (j + 1)) = omega arith in
    let f : d - (j + 1) ≡ d - 1 - j = omega arith in
    rw (e, f) refl

taken : (z : ℤ) (all : List (List (List ℤ))) → z ≡ pos 0 → when_zero z all ≡ all
taken (pos zero) all h = refl
taken (pos (suc n)) all h = absurd (omega (arith, ints))
taken (negsuc n) all h = absurd (omega (arith, ints))

passed : (z : ℤ) (all : List (List (List ℤ))) → z ≢ pos 0 → when_zero z all ≡ []
passed (pos zero) all h = absurd (h refl)
passed (pos (suc n)) all h = refl
passed (negsuc n) all h = refl

-- after the ways over one more coordinate
pub way_taken : (d : ℕ) (rest : List ℤ → List (List (List ℤ))) (path : List (List ℤ)) (x : List ℤ) (j : ℕ) (old new goal : List (List (List ℤ))) → j < d → number_at (d - 1 - j) x ≡ pos 0 →
    new ≡ old ++ before_each (path ++ plus x (unit d (d - 1 - j)) ∷ []) (rest (plus x (unit d (d - 1 - j)))) →
    old ++ before_each path (ways_below d rest x (d - j)) ≡ goal → new ++ before_each path (ways_below d rest x (d - (j + 1))) ≡ goal
way_taken d rest path x j old new goal h z e g =
    let y = plus x (unit d (d - 1 - j)) in
    let later = ways_below d rest x (d - (j + 1)) in
    let split : before_each path (ways_below d rest x (d - j)) ≡ before_each (path ++ y ∷ []) (rest y) ++ before_each path later =
    ap (before_each path) (below d rest x j h ∙ ap (λ l. l ++ later) (taken (number_at (d - 1 - j) x) (map (λ t. y ∷ t) (rest y)) z))
    ∙ before_each-append path (map (λ t. y ∷ t) (rest y)) later ∙ ap (λ l. l ++ before_each path later) (before_each-next path y (rest y))
    in
    ap (λ l. l ++ before_each path later) e ∙ append_assoc old (before_each (path ++ y ∷ []) (rest y)) (before_each path later) ∙ ap (λ l. old ++ l) (sym split) ∙ g

pub way_passed : (d : ℕ) (rest : List ℤ → List (List (List ℤ))) (path : List (List ℤ)) (x : List ℤ) (j : ℕ) (old goal : List (List (List ℤ))) → j < d → number_at (d - 1 - j) x ≢ pos 0 →
    old ++ before_each path (ways_below d rest x (d - j)) ≡ goal → old ++ before_each path (ways_below d rest x (d - (j + 1))) ≡ goal
way_passed d rest path x j old goal h z g =
    let y = plus x (unit d (d - 1 - j)) in
    let later = ways_below d rest x (d - (j + 1)) in
    ap (λ l. old ++ before_each path l) (sym (below d rest x j h ∙ ap (λ l. l ++ later) (passed (number_at (d - 1 - j) x) (map (λ t. y ∷ t) (rest y)) z))) ∙ g

-- ---- the last of the points

pub last_dimension : (d : ℕ) (path : List (List ℤ)) → AllOfDimension d path → 0 < length path → length (last_point path) ≡ d
last_dimension d path all h = get_dimension d path (length path - 1) all (omega arith)

pub last_appended : (path : List (List ℤ)) (x : List ℤ) → last_point (path ++ x ∷ []) ≡ x
last_appended path x =
    let e : length (path ++ x ∷ []) - 1 ≡ length path = omega (arith, length-append path (x ∷ [])) in
    ap (λ n. get_or (path ++ x ∷ []) n []) e ∙ get_last path x []

-- one more number of a list
pub taken_more : (xs : List ℤ) (i : ℕ) (ys : List ℤ) (y : ℤ) → i < length xs → ys ≡ take i xs → y ≡ number_at i xs → ys ++ y ∷ [] ≡ take (i + 1) xs
taken_more [] i ys y h e f = absurd (omega arith)
taken_more (x ∷ xs) zero ys y h e f = rw (e, f) refl
taken_more (x ∷ xs) (suc i) [] y h e f = absurd cc
taken_more (x ∷ xs) (suc i) (z ∷ ys) y h e f =
    let first : z ≡ x = cc in
    let rest : ys ≡ take i xs = cc in
    let g = taken_more xs i ys y (omega arith) rest f in
    let n : suc i + 1 ≡ suc (i + 1) = omega arith in
    rw n cc

pub taken_whole : (xs : List ℤ) (i : ℕ) (ys : List ℤ) → length xs ≤ i → ys ≡ take i xs → ys ≡ xs
taken_whole [] i ys h e = e ∙ take-nil {A = ℤ} i
taken_whole (x ∷ xs) zero ys h e = absurd (omega arith)
taken_whole (x ∷ xs) (suc i) [] h e = absurd cc
taken_whole (x ∷ xs) (suc i) (y ∷ ys) h e =
    let first : y ≡ x = cc in
    let rest : ys ≡ xs = taken_whole xs i ys (omega arith) cc in
    cc
