-- Among the vertices of a simplex in d dimensions stand d whose volume isn't 0.
use Rattle.std.proofs.Common.{◌≡◌, ◌≢◌, ◌⊎◌, ℕ, zero, suc, ℤ, pos, ◌*ℤ◌, ◌<ℤ◌, ◌<◌, ◌≤◌, inl, inr, sym, ap, ◌∙◌, subst, arith, List, [], ◌∷◌, length, get_or, set}
use Rattle.std.specs.List.{Contains}
use Rattle.std.proofs.lemmas.Bool.{cases_eq}
use Rattle.std.proofs.lemmas.Int.{ints}
use Rattle.std.proofs.lemmas.List.{length-set, get_or-set_same, get_or-set_other, set-get_or}
use Rattle.std.proofs.lemmas.List.Elements.{All-from_recursion}
use Rattle.lt_model.specs.Exterior.{volume, full}
use Rattle.lt_model.specs.Matrices.{identity}
use Rattle.lt_model.specs.Simplices.{IsSimplex}
use Rattle.lt_model.specs.Vectors.{combine}
use Rattle.lt_model.proofs.Cramer.{slot_combine, volume_scale}
use Rattle.lt_model.proofs.Dependent.{zero_or_not, mul-not_zero}
use Rattle.lt_model.proofs.Exchange.{volume_identity}
use Rattle.lt_model.proofs.Expressions.{has_weighted}
use Rattle.lt_model.proofs.Flat.{identity_square}
use Rattle.lt_model.proofs.Integers.{mul_zero_z}
use Rattle.lt_model.proofs.Sets.{Contains-head, Contains-tail, Contains-cases, Contains-none, each_holds}

-- a function is 0 at each vector, or it isn't at one
some_or_none : (f : List ℤ → ℤ) (vs : List (List ℤ)) → ((v : List ℤ) × Contains vs v × (f v ≢ pos 0)) ⊎ ((v : List ℤ) → Contains vs v → f v ≡ pos 0)
some_or_none f [] = inr (λ v c. Contains-none v c)
some_or_none f (v ∷ vs) =
    elim (zero_or_not (f v)) [
      | inr n ↦ inl (v, Contains-head v vs, n)
      | inl e ↦ elim (some_or_none f vs) [
        | inl r ↦ inl (r.0, Contains-tail v vs r.0 r.1, r.2)
        | inr all ↦ inr (λ w c. elim (Contains-cases v vs w c) [ inl q ↦ subst (λ (x : List ℤ). f x ≡ pos 0) q e | inr r ↦ all w r ])
      ]
    ]

-- the volume is linear in the vector at a place
none_at : (d : ℕ) (ms : List (List ℤ)) (i : ℕ) (b : List ℤ) (vs : List (List ℤ)) → i < length ms → ((v : List ℤ) → Contains vs v → volume d (set ms i v) ≡ pos 0) → volume d (set ms i (combine b vs)) ≡ pos 0
none_at d ms i [] vs l h = volume_scale d ms i (pos 0) [] l ∙ omega (arith, ints)
none_at d ms i (t ∷ b) [] l h = volume_scale d ms i (pos 0) [] l ∙ omega (arith, ints)
none_at d ms i (t ∷ b) (v ∷ vs) l h =
    let e = slot_combine t b v vs ms i (full d) l in
    let f = none_at d ms i b vs l (λ w c. h w (Contains-tail v vs w c)) in
    let g : t *ℤ volume d (set ms i v) ≡ pos 0 = ap (λ (z : ℤ). t *ℤ z) (h v (Contains-head v vs)) ∙ mul_zero_z t in
    omega (arith, ints, e, f, g)

-- d vectors with a volume, of which the first k are vertices
pub record IsFilled (d : ℕ) (s : List (List ℤ)) (k : ℕ) (ms : List (List ℤ)) : Type 0 where
  pub long : length ms ≡ d
  pub dimension : (i : ℕ) → i < d → length (get_or ms i []) ≡ d
  pub some : volume d ms ≢ pos 0
  pub vertices : (i : ℕ) → i < k → Contains s (get_or ms i [])

module _ (d : ℕ) (s : List (List ℤ)) (simplex : IsSimplex d s) where
  put : (k : ℕ) (ms : List (List ℤ)) (v : List ℤ) → k < d → IsFilled d s k ms → Contains s v → volume d (set ms k v) ≢ pos 0 → IsFilled d s (suc k) (set ms k v)
  put k ms v l h c n = record {
    long = length-set ms k v ∙ h.long;
    dimension = λ i b. elim (cases_eq i k) [
      | inl e ↦ subst (λ (j : ℕ). length (get_or (set ms k v) j []) ≡ d) (sym e) (ap length here ∙ each_holds (λ z. length z ≡ d) s v simplex.points c)
      | inr ne ↦ ap length (get_or-set_other ms k i v [] ne) ∙ h.dimension i b
    ];
    some = n;
    vertices = λ i b. elim (cases_eq i k) [
      | inl e ↦ subst (λ (j : ℕ). Contains s (get_or (set ms k v) j [])) (sym e) (subst (Contains s) (sym here) c)
      | inr ne ↦ subst (Contains s) (sym (get_or-set_other ms k i v [] ne)) (h.vertices i (omega (arith, b, ne)))
    ];
  }
    where
      here : get_or (set ms k v) k [] ≡ v
      here = get_or-set_same ms k v [] (let m = h.long in omega (arith, l, m))

  none_left : (k : ℕ) (ms : List (List ℤ)) → k < d → IsFilled d s k ms → ((v : List ℤ) → Contains s v → volume d (set ms k v) ≡ pos 0) → ⊥
  none_left k ms l h none =
      let x = get_or ms k [] in
      let w = has_weighted d s (pos 1) x simplex (h.dimension k l) in
      let within : k < length ms = (let m = h.long in omega (arith, l, m)) in
      let zero_there : w.c *ℤ volume d (set ms k x) ≡ pos 0 = sym (volume_scale d ms k w.c x within) ∙ ap (λ (y : List ℤ). volume d (set ms k y)) (sym w.is.point) ∙ none_at d ms k w.b s within none in
      mul-not_zero w.c (volume d ms) (positive w.c w.is.positive) h.some (ap (λ (z : List (List ℤ)). w.c *ℤ volume d z) (sym (set-get_or ms k [])) ∙ zero_there)
    where
      positive : (c : ℤ) → pos 0 <ℤ c → c ≢ pos 0
      positive c h e = omega (arith, ints, h, e)

  filled : (k : ℕ) → k ≤ d → (ms : List (List ℤ)) × IsFilled d s k ms
  filled zero l = (
    identity d,
    record {
      long = (identity_square d).rows;
      dimension = λ i b. All-from_recursion (λ z. length z ≡ d) (identity d) (identity_square d).columns i [] (let r = (identity_square d).rows in omega (arith, b, r));
      some = λ e. (let f = volume_identity d in omega (arith, ints, e, f));
      vertices = λ i b. absurd (omega (arith, b));
    },
  )
  filled (suc k) l = more (filled k (omega (arith, l)))
    where
      more : (ms : List (List ℤ)) × IsFilled d s k ms → (ms : List (List ℤ)) × IsFilled d s (suc k) ms
      more (ms, h) =
          elim (some_or_none (λ v. volume d (set ms k v)) s) [
            | inl r ↦ (set ms k r.0, put k ms r.0 (omega (arith, l)) h r.1 r.2)
            | inr none ↦ absurd (none_left k ms (omega (arith, l)) h none)
          ]

  pub vertices_filled : (ms : List (List ℤ)) × IsFilled d s d ms
  vertices_filled = filled d (omega arith)
