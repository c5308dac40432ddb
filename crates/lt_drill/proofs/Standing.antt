-- What holds after so many turns, and what one turn more makes of it.
use Rattle.std.proofs.Common.{◌≡◌, ℕ, suc, ℤ, ◌*◌, ◌^◌, ◌≤◌, refl, ap, arith, sym, ◌∙◌, subst, List, length}
use Rattle.std.specs.List.{All}
use Rattle.std.proofs.lemmas.List.Elements.{All-weaker}
use Rattle.lt_model.specs.Flat.{rows, flat}
use Rattle.lt_model.specs.Matrices.{times, identity}
use Rattle.lt_model.proofs.Flat.{rows-flat, identity_square}
use Rattle.lt_geometry.proofs.Images.{carries_itself}
use Rattle.lt_lattice.specs.Ranges.{IsWithin}
use Rattle.lt_triang.specs.Kept.{IsTriangulation}
use Rattle.lt_drill.specs.States.{after}
use Rattle.lt_drill.specs.Scrambles.{turn_factor, IsImage, AreTurns, IsNarrowImage, HasWideImage}
use Rattle.lt_drill.proofs.Factors.{identity_small, length-identity}
use Rattle.lt_drill.proofs.Products.{rows_product}
use Rattle.lt_drill.proofs.Turns.{doubled}

-- after n turns u is the matrix, whose numbers are at most 2^n, and r the image
pub record Stands (n d : ℕ) (t : List (List (List ℤ))) (x : ℕ) (u : List ℤ) (r : List (List (List ℤ))) : Type 0 where
  pub square : length u ≡ d * d
  pub small : All (IsWithin (2 ^ n)) u
  pub turns : AreTurns n d t x (rows d u)
  pub image : IsImage d (rows d u) t r
  pub triangulation : IsTriangulation d r

pub begins : (d : ℕ) (t r : List (List (List ℤ))) (x : ℕ) (u : List ℤ) → IsTriangulation d t → u ≡ flat (identity d) → r ≡ t → Stands 0 d t x u r
begins d t r x u h is same =
    let at : rows d u ≡ identity d = ap (rows d) is ∙ rows-flat d (identity d) (identity_square d) in
    record {
      square = ap length is ∙ length-identity d;
      small = subst (All (IsWithin 1)) (sym is) (identity_small d);
      turns = at;
      image = subst (λ m. IsImage d m t r) (sym at) (subst (IsImage d (identity d) t) (sym same) (record { carries = carries_itself d t h.classes; ascending = h.ascending }));
      triangulation = subst (IsTriangulation d) (sym same) h;
    }

module _ (n d : ℕ) (t : List (List (List ℤ))) (x : ℕ) (u p : List ℤ) (r : List (List (List ℤ))) (low : 2 ≤ d) (stands : Stands n d t x u r) (is : p ≡ flat (times (turn_factor d (after (3 * n) x)) (rows d u))) where
  product_rows : rows d p ≡ times (turn_factor d (after (3 * n) x)) (rows d u)
  product_rows = ap (rows d) is ∙ rows_product d (after (3 * n) x) low u stands.square

  -- the product is taken
  pub takes : (r2 : List (List (List ℤ))) → length p ≡ d * d → All (IsWithin (2 * 2 ^ n)) p → IsNarrowImage d (rows d p) t r2 → Stands (suc n) d t x p r2
  takes r2 square small found = record {
    square = square;
    small = subst (λ m. All (IsWithin m) p) (doubled n) small;
    turns = (
      rows d u,
      stands.turns,
      record {
        image = r2;
        is_image = subst (λ m. IsImage d m t r2) product_rows (record { carries = found.carries; ascending = found.triangulation.ascending });
        taken = λ _. product_rows;
        left = λ above. let within = found.triangulation.narrow in absurd (omega (arith, above, within));
      },
    );
    image = record { carries = found.carries; ascending = found.triangulation.ascending };
    triangulation = found.triangulation;
  }

  -- the product is left
  pub leaves : HasWideImage d (rows d p) t → Stands (suc n) d t x u r
  leaves wide = record {
    square = stands.square;
    small = All-weaker {X = ℤ} (IsWithin (2 ^ n)) (IsWithin (2 ^ suc n)) (λ y h. omega (arith, h, doubled n)) u stands.small;
    turns = (
      rows d u,
      stands.turns,
      record {
        image = wide.list;
        is_image = subst (λ m. IsImage d m t wide.list) product_rows wide.is_image;
        taken = λ within. let above = wide.wide in absurd (omega (arith, above, within));
        left = λ _. refl;
      },
    );
    image = stands.image;
    triangulation = stands.triangulation;
  }
