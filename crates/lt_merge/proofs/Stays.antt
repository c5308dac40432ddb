-- What was said of an atlas holds of it with an event more: places of entries, images of facets, and what was taken over.
use Rattle.std.proofs.Common.{ℕ, ℤ, ◌<◌, ◌∙◌, ◌⊎◌, arith, sym, subst, List, [], length, get_or}
use Rattle.lt_model.specs.Matrices.{AreEquivalent}
use Rattle.lt_model.specs.Walls.{IsAcross}
use Rattle.lt_model.specs.Atlases.{Classes, Entry, Atlas, entry_at, facet_at, facets}
use Rattle.lt_model.specs.Logs.{IsKept}
use Rattle.lt_match.specs.Matches.{IsFirstMatch}
use Rattle.lt_laws.specs.Carried.{IsNormalAlong}
use Rattle.lt_crew.specs.Settled.{IsFirstKnown}
use Rattle.lt_merge.specs.Images.{IsImageOf}
use Rattle.lt_merge.specs.Taken.{IsFrom, IsTakenOver}
use Rattle.lt_merge.proofs.Grown.{IsGrown}

module _ (a b : Atlas) (g : IsGrown a b) where
  -- a fact on an entry and the dimension
  there : (P : ℕ → Entry → Type 0) (k : ℕ) → k < length a.entries → P a.dimension (entry_at a.entries k) → P b.dimension (entry_at b.entries k)
  there P k l h = subst (λ (z : ℕ). P z (entry_at b.entries k)) (sym g.dimension) (subst (λ (e : Entry). P a.dimension e) (sym (g.entries k l)) h)

  back : (P : ℕ → Entry → Type 0) (k : ℕ) → k < length a.entries → P b.dimension (entry_at b.entries k) → P a.dimension (entry_at a.entries k)
  back P k l h = subst (λ (z : ℕ). P z (entry_at a.entries k)) g.dimension (subst (λ (e : Entry). P b.dimension e) (g.entries k l) h)

  pub known_stays : (c : Classes) (k : ℕ) (u : List (List ℤ)) → IsFirstKnown a c k u → IsFirstKnown b c k u
  known_stays c k u h =
      let l = h.present in
      let m = g.more in
      record {
        present = omega (arith, l, m);
        first = there (λ d e. IsFirstMatch d c e.triangulation u) k h.present h.first;
        before = λ i n same. h.before i n (back (λ d e. AreEquivalent d c e.triangulation) i (omega (arith, n, l)) same);
      }

  pub image_stays : (t : Atlas) (p q : ℕ × ℕ) → IsImageOf t p a q → IsImageOf t p b q
  image_stays t p q h = record {
    matrix = h.matrix;
    placed = known_stays (entry_at t.entries p.0).triangulation q.0 h.matrix h.placed;
    image = record {
      within = there (λ d e. q.1 < length (facets e)) q.0 h.placed.present h.image.within;
      along = there (λ d e. IsNormalAlong d h.matrix (facet_at t.entries p) (get_or (facets e) q.1 [])) q.0 h.placed.present h.image.along;
    };
  }

  pub taken_stays : IsKept (IsAcross a.dimension) a → (t : Atlas) (p : ℕ × ℕ) → IsTakenOver t p a → IsTakenOver t p b
  taken_stays kept t p h =
      let l = h.image.placed.present in
      let lists = kept.right.parts.lists in
      record {
        place = h.place;
        image = image_stays t p h.place h.image;
        settled = λ o. h.settled (sym (g.marks h.place (omega (arith, l, lists)) h.settled) ∙ o);
      }

  pub from_stays : (s t : Atlas) (j : ℕ) → j < length a.entries → IsFrom s (entry_at a.entries j).triangulation ⊎ IsFrom t (entry_at a.entries j).triangulation → IsFrom s (entry_at b.entries j).triangulation ⊎ IsFrom t (entry_at b.entries j).triangulation
  from_stays s t j l h = subst (λ (e : Entry). IsFrom s e.triangulation ⊎ IsFrom t e.triangulation) (sym (g.entries j l)) h
