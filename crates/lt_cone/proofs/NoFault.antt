-- A right cone has no fault, and a fault of one list of the regulators is one of each.
use Rattle.std.proofs.Common.{◌≡◌, ◌∙◌, sym, ap, subst, arith, inl, inr, ℕ, ◌<◌, ℤ, List, [], length, get_or}
use Rattle.std.proofs.lemmas.List.{get_or-map, length-map}
use Rattle.lt_model.specs.Cones.{Row, Cone, normals, IsRightCone, IsRightVerdict}
use Rattle.lt_model.specs.Limits.{weight, weight_limit}
use Rattle.lt_model.specs.Walls.{AreRegulators}
use Rattle.lt_regulator.proofs.Distinct.{one_list}
use Rattle.lt_cone.specs.declared.error.ConeFault.TheVariants.{Wrong}
use Rattle.lt_cone.specs.Faults.{IsRowOf, IsFault, HasFault}
use Rattle.lt_cone.specs.Laws.{NoRightConeHasAFault}

module _ (d : ℕ) (t : List (List (List ℤ))) (c : Cone) (ns : List (List ℤ)) (r : AreRegulators d t ns) (h : IsRightCone d t c) where
  names : normals c.rows ≡ ns
  names = one_list d t (normals c.rows) ns h.regulators r

  count : length c.rows ≡ length ns
  count = sym (length-map c.rows (λ (x : Row). x.normal)) ∙ ap (length {A = List ℤ}) names

  light : weight d ns < weight_limit
  light = subst (λ (ms : List (List ℤ)). weight d ms < weight_limit) names h.light

  row_there : (k : ℕ) → k < length ns → IsRowOf d ns c.rows k
  row_there k l =
      let within : k < length c.rows = omega (arith, l, count) in (
        within,
        λ x. (
          sym (get_or-map (λ (y : Row). y.normal) c.rows k x [] within) ∙ ap (λ (ms : List (List ℤ)). get_or ms k []) names,
          subst (λ (ms : List (List ℤ)). IsRightVerdict d ms k (get_or c.rows k x).verdict) names (h.verdicts k x within),
        ),
      )

  no_fault : (row : ℕ) → IsFault d ns c (Wrong row) → ⊥
  no_fault row f =
      elim f [
        | inl heavy ↦ (let a = heavy.0 in let b = light in absurd (omega (arith, a, b)))
        | inr g ↦ elim g [
          | inl wrong ↦ wrong.3 (row_there row wrong.1)
          | inr last ↦ last.3 (count, record { factor = h.factor; some = h.some; times = h.sum; primitive = h.primitive })
        ]
      ]

pub none_wrong : NoRightConeHasAFault
none_wrong d t c ns row r h f = no_fault d t c ns r h row f

pub each_fault : (d : ℕ) (t : List (List (List ℤ))) (c : Cone) (row : ℕ) → HasFault d t c (Wrong row) → (ns : List (List ℤ)) → AreRegulators d t ns → IsFault d ns c (Wrong row)
each_fault d t c row (ms, s, f) ns r = subst (λ (xs : List (List ℤ)). IsFault d xs c (Wrong row)) (one_list d t ms ns s r) f
