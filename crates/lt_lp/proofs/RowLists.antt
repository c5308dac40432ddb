-- A list of rows that grows by one.
use Rattle.std.proofs.Common.{◌≡◌, sym, ◌∙◌, ap, arith, ℕ, ◌+◌, ◌<◌, ◌≤◌, ℤ, List, [], ◌∷◌, ◌++◌, length, map, take, get_or, length-append}
use Rattle.std.proofs.lemmas.List.{map-append, take_more, get_or_append_left}
use Rattle.std.proofs.Math.Seq.{get_or-append_seam}
use native.Mathlib.Decide.{dec_le}
use Rattle.lt_model.specs.Cones.{Row, Verdict, normals}

pub names_step : (ns : List (List ℤ)) (rows new : List Row) (x : Row) (k : ℕ) → k < length ns → new ≡ rows ++ x ∷ [] → normals rows ≡ take k ns → x.normal ≡ get_or ns k [] → normals new ≡ take (k + 1) ns
names_step ns rows new x k h e n v = ap (map (λ (r : Row). r.normal)) e ∙ map-append (λ (r : Row). r.normal) rows (x ∷ []) ∙ rw (n, v) (sym (take_more ns k [] h))

pub longer : (rows new : List Row) (x : Row) (k : ℕ) → new ≡ rows ++ x ∷ [] → length rows ≡ k → length new ≡ k + 1
longer rows new x k e l = ap (length {A = Row}) e ∙ length-append rows (x ∷ []) ∙ ap (λ (m : ℕ). m + 1) l

pub each_step : (P : ℕ → Verdict → Type 0) (rows new : List Row) (x : Row) (k : ℕ) → new ≡ rows ++ x ∷ [] → length rows ≡ k → ((j : ℕ) (r : Row) → j < length rows → P j (get_or rows j r).verdict) → P k x.verdict → (j : ℕ) (r : Row) → j < length new → P j (get_or new j r).verdict
each_step P rows new x k e l each own j r h = pick (dec_le (length rows) j)
  where
    pick : Dec (length rows ≤ j) → P j (get_or new j r).verdict
    pick (no b) = rw (e, get_or_append_left rows (x ∷ []) r j (omega arith)) (each j r (omega arith))
    pick (yes b) =
        let m = longer rows new x k e l in
        let s : j ≡ length rows = omega arith in
        rw (e, s, get_or-append_seam rows x [] r, l) own
