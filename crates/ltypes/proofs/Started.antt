-- The atlas with which a command begins: its dimension, and its marks, which are open or crossed.
use Rattle.std.proofs.Common.{◌≡◌, ℕ, zero, suc, ℤ, ◌<◌, refl, arith, ap, ◌∙◌, inl, inr, ◌⊎◌, List, [], ◌∷◌, length, get_or, Bool, true, false}
use Rattle.lt_model.specs.Atlases.{Mark, Atlas, open_mark, cross, wide, heavy, no_mark, one_if_stuck, count_in, stuck}
use Rattle.lt_crew.specs.Laws.{AreOpenOrCrossed}
use Rattle.lt_read.proofs.Resumed.{read_free, start_free}
use Rattle.ltypes.specs.Beginnings.{IsBeginning}
use Rattle.ltypes.specs.Changes.{Change}

pub begins_in_dimension : (d : ℕ) (resume : Bool) (source : Change) (a : Atlas) → IsBeginning d resume source a → a.dimension ≡ d
begins_in_dimension d true source a (bytes, taken, read) = ap (λ (z : Atlas). z.dimension) read.atlas.fresh ∙ read.dimension
begins_in_dimension d false source a (start, same) = ap (λ (z : Atlas). z.dimension) start.atlas

-- ---- no mark of it is wide or heavy

free : (m : Mark) → one_if_stuck m ≡ 0 → (m ≡ open_mark) ⊎ ((k : ℕ) × (u : List (List ℤ)) × (m ≡ cross k u))
free open_mark e = inl refl
free (cross k u) e = inr (k, u, refl)
free (wide s n) e = absurd (omega (arith, e))
free (heavy n) e = absurd (omega (arith, e))

row_free : (ms : List Mark) (f : ℕ) → count_in one_if_stuck ms ≡ 0 → f < length ms → (get_or ms f no_mark ≡ open_mark) ⊎ ((k : ℕ) × (u : List (List ℤ)) × (get_or ms f no_mark ≡ cross k u))
row_free [] f e l = absurd (omega (arith, l))
row_free (m ∷ ms) zero e l = free m (omega (arith, e))
row_free (m ∷ ms) (suc f) e l = row_free ms f (omega (arith, e)) (omega (arith, l))

pub all_free : (mss : List (List Mark)) → stuck mss ≡ 0 → AreOpenOrCrossed mss
all_free [] e j f l k = absurd (omega (arith, l))
all_free (ms ∷ mss) e zero f l k = row_free ms f (omega (arith, e)) k
all_free (ms ∷ mss) e (suc j) f l k = all_free mss (omega (arith, e)) j f (omega (arith, l)) k

pub begins_free : (d : ℕ) (resume : Bool) (source : Change) (a : Atlas) → IsBeginning d resume source a → stuck a.marks ≡ 0
begins_free d true source a (bytes, taken, read) = read_free 2 d bytes a read
begins_free d false source a (start, same) = start_free d a start
