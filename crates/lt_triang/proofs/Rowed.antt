-- The neighbours at the facets of each class, as they are kept.
use Rattle.std.proofs.Common.{◌≡◌, ℕ, suc, ℤ, ◌<◌, ◌-◌, ◌+◌, refl, ap, arith, sym, ◌∙◌, subst, List, [], ◌∷◌, ◌++◌, inl, inr, length, get_or}
use Rattle.std.proofs.lemmas.Bool.{cases_lt}
use Rattle.std.proofs.lemmas.List.{get_or_append_left, get_or_push, get_or_read, length_push}
use Rattle.std.proofs.lemmas.List.Elements.{Contains-get_or}
use Rattle.lt_triang.specs.Across.{IsFacing, HasAcross, IsFirstOpenOf, IsFirstOpen}
use Rattle.lt_model.specs.Vectors.{plus}
use Rattle.lt_model.specs.Simplices.{IsClass, IsExpression}
use Rattle.lt_triang.specs.Kept.{IsTriangulation, AreClasses}
use Rattle.lt_triang.specs.Indexed.{IsOuterIn}
use Rattle.lt_triang.specs.Walled.{IsWallOf, IsWallTo, shift_to, vertex_to, IsWall, IsRow, AreRows}
use Rattle.lt_triang.specs.declared.walls.Wall.{Wall}
use Rattle.lt_triang.proofs.Expressed.{member_dimension}
use Rattle.lt_triang.proofs.Shifts.{only_shift, count_without}

-- what stands past the end of a row
pub some_wall : Wall
some_wall = record { class = 0; vertex = 0; numbers = record { items = [] } }

-- the wall that is made where a facet is found to lie across
pub wall_made : (d : ℕ) (t : List (List (List ℤ))) (s : List (List ℤ)) (i m j : ℕ) (p v : List ℤ) (c : ℤ) (b : List ℤ) (w : Wall) → AreClasses d t → m < length t → j < suc d →
    IsFacing d s i (get_or t m []) p j → IsOuterIn s (get_or t m []) p j v c b → IsWallOf m j c b w → IsWallTo d t s i m j w
wall_made d t s i m j p v c b w h lm lj f o of =
    let next : List (List ℤ) = get_or t m [] in
    let k : IsClass d next = h.classes next (Contains-get_or t m [] lm) in
    let e : p ≡ shift_to s i next j = (only_shift d s i next j p k.simplex.points (count_without d j next h.low k.simplex.count lj) f).0 in
    let same : v ≡ vertex_to s i next j = o.vertex ∙ ap (plus (get_or next j [])) e in
    record {
      class = of.class;
      vertex = of.vertex;
      scale = c;
      coefficients = b;
      facing = subst (λ (q : List ℤ). IsFacing d s i next q j) e f;
      outer = record { vertex = refl; expression = subst (λ (x : List ℤ). IsExpression s x c b) same o.expression; primitive = o.primitive; below = o.below };
      numbers = of.numbers;
    }

pub row_pushed : {X : Type 0} (P : ℕ → X → Type 0) (xs : List X) (i : ℕ) (x : X) → length xs ≡ i → ((k : ℕ) (e : X) → k < i → P k (get_or xs k e)) → P i x → (k : ℕ) (e : X) → k < i + 1 → P k (get_or (xs ++ x ∷ []) k e)
row_pushed P xs i x l each here k e p =
    elim (cases_lt k i) [
      | inl h ↦ subst (P k) (sym (get_or_append_left xs (x ∷ []) e k (omega (arith, h, l)))) (each k e h)
      | inr h ↦
          let q : i ≡ k = omega (arith, h, p) in
          subst (P k) (sym (get_or_push xs x e k (l ∙ q))) (subst (λ (n : ℕ). P n x) q here)
    ]

pub rows_across : (d : ℕ) (t : List (List (List ℤ))) (n : ℕ) (rows : List (List Wall)) → AreRows d t n rows → (m i : ℕ) → m < n → i < suc d → HasAcross d t (get_or t m []) i
rows_across d t n rows h m i lm li =
    let w : Wall = get_or (get_or rows m []) i some_wall in
    (w.class, shift_to (get_or t m []) i (get_or t w.class []) w.vertex, w.vertex, ((h.each m lm).each i some_wall li).first)

-- the wall at a place of a row
pub row_wall : (d : ℕ) (t : List (List (List ℤ))) (n : ℕ) (rows : List (List Wall)) (m j : ℕ) (row : List Wall) (w : Wall) → AreRows d t n rows → m < n → j < suc d → row ≡ get_or rows m row → w ≡ get_or row j w → IsWall d t (get_or t m []) j w
row_wall d t n rows m j row w k lm lj er e =
    let r : IsRow d t (get_or t m []) (get_or rows m []) = k.each m lm in
    let mine : row ≡ get_or rows m [] = get_or_read rows m row (omega (arith, lm, k.count)) er [] in
    let same : get_or (get_or rows m []) j w ≡ w = subst (λ (x : List Wall). get_or x j w ≡ w) mine (sym e) in
    subst (λ (x : Wall). IsWall d t (get_or t m []) j x) same (r.each j w lj)

pub kept_wall : (d : ℕ) (t : List (List (List ℤ))) (rows : List (List Wall)) (c f : ℕ) (row : List Wall) (a : Wall) → IsTriangulation d t → AreRows d t (length t) rows → c < length t → f < length (get_or t c []) →
    row ≡ get_or rows c row → a ≡ get_or row f a → IsWall (length (get_or t c []) - 1) t (get_or t c []) f a
kept_wall d t rows c f row a h k lc lf er e =
    let l : length (get_or t c []) ≡ suc d = member_dimension d t c h lc in
    let dim : d ≡ length (get_or t c []) - 1 = omega (arith, l) in
    subst (λ (n : ℕ). IsWall n t (get_or t c []) f a) dim (row_wall d t (length t) rows c f row a k lc (omega (arith, lf, l)) er e)

pub rows_pushed : (d : ℕ) (t : List (List (List ℤ))) (n : ℕ) (rows : List (List Wall)) (row : List Wall) → AreRows d t n rows → IsRow d t (get_or t n []) row → AreRows d t (n + 1) (rows ++ row ∷ [])
rows_pushed d t n rows row h r = record {
  count = omega (arith, length_push rows row, h.count);
  each = λ m l. elim (cases_lt m n) [
    | inl p ↦ subst (IsRow d t (get_or t m [])) (sym (get_or_append_left rows (row ∷ []) [] m (omega (arith, p, h.count)))) (h.each m p)
    | inr p ↦
        let q : n ≡ m = omega (arith, p, l) in
        subst (IsRow d t (get_or t m [])) (sym (get_or_push rows row [] m (h.count ∙ q))) (subst (λ (k : ℕ). IsRow d t (get_or t k []) row) q r)
  ];
}

pub first_open : (d : ℕ) (t : List (List (List ℤ))) (n m i : ℕ) (rows : List (List Wall)) → n < length t → AreRows d t n rows → m ≡ n → IsFirstOpenOf d t (get_or t n []) i → IsFirstOpen d t m i
first_open d t n m i rows l h e f =
    subst (λ (k : ℕ). IsFirstOpen d t k i) (sym e) (record { member = l; facet = f; earlier = λ k j lk lj. rows_across d t n rows h k j lk lj })
