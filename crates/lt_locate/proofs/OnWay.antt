-- A walk on its way, as the program keeps it.
use Rattle.std.proofs.Common.{◌≡◌, ℕ, suc, ℤ, ◌+◌, ◌<◌, ◌≤◌, arith, sym, ◌∙◌, ap, subst, List, length}
use native.Mathlib.Decide.{dec_le}
use Rattle.lt_model.specs.Forms.{numbers_of_form}
use Rattle.lt_model.specs.Principal.{IsPrincipal}
use Rattle.lt_model.specs.Triangulations.{IsDelaunay}
use Rattle.lt_triang.specs.Kept.{dimension_of, IsOfSomeForm}
use Rattle.lt_triang.proofs.SomeForm.{delaunay_dimension, some_form}
use Rattle.lt_locate.specs.declared.answers.LocateError.{LocateError}
use Rattle.lt_locate.specs.declared.answers.LocateError.TheVariants.{NotPositive, OnWall, Stopped, Memory}
use Rattle.lt_locate.specs.Walks.{IsWalked}
use Rattle.lt_locate.specs.Endings.{Ending, IsReason, Passes, ComesTo, EndsWith}
use Rattle.lt_locate.specs.Refusals.{ending_of, IsRefusal, IsStopAt}
use Rattle.lt_locate.specs.Steps.{IsNext}
use Rattle.lt_locate.proofs.Dimensions.{one_dimension}

pub record IsOnWay (q : List ℤ) (steps i : ℕ) (t : List (List (List ℤ))) : Type 0 where
  pub comes : ComesTo (dimension_of t) q steps i t
  pub form : IsOfSomeForm t
  pub same : length q ≡ numbers_of_form (dimension_of t)

pub begun : (d : ℕ) (a q : List ℤ) (steps : ℕ) (t : List (List (List ℤ))) → length q ≡ numbers_of_form d → IsPrincipal d t → IsDelaunay d a t → IsOnWay q steps 0 t
begun d a q steps t l p k =
    let e : d ≡ dimension_of t = delaunay_dimension d a t k in record {
      comes = record { walked = subst (λ (n : ℕ). IsPrincipal n t) e p; passed = λ j h. absurd (omega (arith, h)) };
      form = some_form d a t k;
      same = l ∙ ap numbers_of_form e;
    }

pub gone_on : (q : List ℤ) (steps i : ℕ) (t s : List (List (List ℤ))) → IsOnWay q steps i t → IsNext t q i steps s → IsOnWay q steps (suc i) s
gone_on q steps i t s h n = record {
  comes = subst (λ (d : ℕ). ComesTo d q steps (suc i) s) (sym n.same) come;
  form = n.form;
  same = h.same ∙ ap numbers_of_form (sym n.same);
}
  where
    passes : Passes (dimension_of t) q steps i t
    passes = record { is_open = n.is_open; facet = n.facet; first = n.first; below = n.below; next = s; across = n.across; narrow = n.narrow }

    before : (j : ℕ) → j < suc i → Dec (i ≤ j) → (u : List (List (List ℤ))) × IsWalked (dimension_of t) q j u × Passes (dimension_of t) q steps j u
    before j l (yes k) =
        let e : i ≡ j = omega arith in
        (t, subst (λ (m : ℕ). IsWalked (dimension_of t) q m t) e h.comes.walked, subst (λ (m : ℕ). Passes (dimension_of t) q steps m t) e passes)
    before j l (no k) = h.comes.passed j (omega arith)

    come : ComesTo (dimension_of t) q steps (suc i) s
    come = record { walked = (t, n.facet, h.comes.walked, n.first, n.across); passed = λ j l. before j l (dec_le i j) }

-- ---- the end, in the dimension of the form

here : (q : List ℤ) (steps i : ℕ) (t : List (List (List ℤ))) (d : ℕ) → IsOnWay q steps i t → length q ≡ numbers_of_form d → dimension_of t ≡ d
here q steps i t d h l = one_dimension (dimension_of t) d (sym h.same ∙ l)

pub ended : (q : List ℤ) (steps i : ℕ) (t : List (List (List ℤ))) (e : Ending) → IsOnWay q steps i t → IsReason (dimension_of t) q steps i t e → (d : ℕ) → length q ≡ numbers_of_form d → EndsWith d q steps i t e
ended q steps i t e h r d l = subst (λ (n : ℕ). EndsWith n q steps i t e) (here q steps i t d h l) (record { comes = h.comes; reason = r })

pub refused : (q : List ℤ) (steps i : ℕ) (t : List (List (List ℤ))) (e : LocateError) → IsOnWay q steps i t → IsStopAt (dimension_of t) q steps i t e → (d : ℕ) → length q ≡ numbers_of_form d → IsRefusal d q steps e
refused q steps i t (NotPositive x) h r d l = (i, t, ended q steps i t _ h r d l)
refused q steps i t (OnWall n) h r d l = (i, t, ended q steps i t _ h r d l)
refused q steps i t (Stopped j why) h r d l = (t, subst (λ (k : ℕ). EndsWith d q steps k t (ending_of why)) (sym r.0) (ended q steps i t (ending_of why) h r.1 d l))
refused q steps i t Memory h r d l = tt

-- a step more, counted as the program counts
pub gone_further : (q : List ℤ) (steps i : ℕ) (t s : List (List (List ℤ))) → IsOnWay q steps i t → IsNext t q i steps s → IsOnWay q steps (i + 1) s
gone_further q steps i t s h n = let e : suc i ≡ i + 1 = omega arith in subst (λ (k : ℕ). IsOnWay q steps k s) e (gone_on q steps i t s h n)

-- the form's own dimension is at least 2
pub low_dimension : (q : List ℤ) (e d : ℕ) → 2 ≤ e → length q ≡ numbers_of_form e → length q ≡ numbers_of_form d → 2 ≤ d
low_dimension q e d l h k = subst (λ (n : ℕ). 2 ≤ n) (one_dimension e d (sym h ∙ k)) l
