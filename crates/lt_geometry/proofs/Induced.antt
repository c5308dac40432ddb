-- The matrix by which squares go along with points; forms and normals are carried by it.
use Rattle.std.proofs.Common.{◌≡◌, ℕ, zero, suc, ℤ, pos, negsuc, ◌+ℤ◌, ◌*ℤ◌, ◌+◌, refl, ap, arith, sym, ◌∙◌, List, [], ◌∷◌, ◌++◌, length, length-append, map}
use Rattle.std.proofs.lemmas.Int.{ints}
use Rattle.lt_model.specs.Forms.{squares, numbers_of_form, value}
use Rattle.lt_model.specs.Matrices.{apply, IsSquare}
use Rattle.lt_model.specs.Simplices.{AllOfDimension}
use Rattle.lt_model.specs.Vectors.{plus, minus, scale, dot, combine, zeros}
use Rattle.lt_model.proofs.Excess.{plus-dot, scale-dot}
use Rattle.lt_model.proofs.Integers.{spread}
use Rattle.lt_model.proofs.Opposite.{length-zeros, zeros-dot}
use Rattle.lt_model.proofs.Ring.{var, num, ◌⊕◌, ◌⊗◌, ring}
use Rattle.lt_model.proofs.Squares.{length-scale, length-plus}
use Rattle.lt_model.proofs.Vectors.{dot-scale, dot_comm, plus_comm, plus_assoc, add-scale, scale-scale}
use Rattle.lt_model.proofs.Points.{length-apply}
use Rattle.lt_geometry.proofs.Matrices.{dot-apply, same_from_dots_at, length-combine_at, IsUndone}
use Rattle.lt_geometry.proofs.Reading.{dot-append_both}

-- the numbers of the form that is the product of two linear functions
abbrev pub products : List ℤ → List ℤ → List ℤ
products [] m = []
products (a ∷ l) [] = []
products (a ∷ l) (b ∷ m) = plus (scale a (b ∷ m)) (pos 0 ∷ scale b l) ++ products l m

-- the matrix that sends the squares of x to those of the image of x
abbrev pub induced : List (List ℤ) → List (List ℤ)
induced [] = []
induced (r ∷ u) = map (products r) (r ∷ u) ++ induced u

-- the form Q[U x]
abbrev pub pulled : List ℤ → List (List ℤ) → List ℤ
pulled q u = combine q (induced u)

pub length-squares : (n : ℕ) (x : List ℤ) → length x ≡ n → length (squares x) ≡ numbers_of_form n
length-squares zero [] l = refl
length-squares zero (a ∷ x) l = absurd (omega arith)
length-squares (suc n) [] l = absurd (omega arith)
length-squares (suc n) (a ∷ x) l =
    let ih = length-squares n x (omega arith) in
    omega (arith, length-append (scale a (a ∷ x)) (squares x), length-scale a (a ∷ x), ih, l)

length-row : (n : ℕ) (a b : ℤ) (l m : List ℤ) → length l ≡ n → length m ≡ n → length (plus (scale a (b ∷ m)) (pos 0 ∷ scale b l)) ≡ suc n
length-row n a b l m hl hm = ap suc (length-plus (scale a m) (scale b l) (length-scale a m ∙ hm ∙ sym hl ∙ sym (length-scale b l)) ∙ length-scale a m ∙ hm)

pub length-products : (n : ℕ) (l m : List ℤ) → length l ≡ n → length m ≡ n → length (products l m) ≡ numbers_of_form n
length-products zero [] m hl hm = refl
length-products zero (a ∷ l) m hl hm = absurd (omega arith)
length-products (suc n) [] m hl hm = absurd (omega arith)
length-products (suc n) (a ∷ l) [] hl hm = absurd (omega arith)
length-products (suc n) (a ∷ l) (b ∷ m) hl hm =
    let ih = length-products n l m (omega arith) (omega arith) in
    omega (arith, length-append (plus (scale a (b ∷ m)) (pos 0 ∷ scale b l)) (products l m), length-row n a b l m (omega arith) (omega arith), ih)

pub dot-products : (n : ℕ) (l m x : List ℤ) → length l ≡ n → length m ≡ n → length x ≡ n → dot (products l m) (squares x) ≡ dot l x *ℤ dot m x
dot-products zero [] m x hl hm hx = omega (arith, ints)
dot-products zero (a ∷ l) m x hl hm hx = absurd (omega arith)
dot-products (suc n) [] m x hl hm hx = absurd (omega arith)
dot-products (suc n) (a ∷ l) [] x hl hm hx = absurd (omega arith)
dot-products (suc n) (a ∷ l) (b ∷ m) [] hl hm hx = absurd (omega arith)
dot-products (suc n) (a ∷ l) (b ∷ m) (z ∷ x) hl hm hx =
    let row : List ℤ = plus (scale a (b ∷ m)) (pos 0 ∷ scale b l) in
    let lr : length row ≡ length (scale z (z ∷ x)) = length-row n a b l m (omega arith) (omega arith) ∙ sym hx ∙ sym (length-scale z (z ∷ x)) in
    let e1 : dot (row ++ products l m) (scale z (z ∷ x) ++ squares x) ≡ dot row (scale z (z ∷ x)) +ℤ dot (products l m) (squares x) = dot-append_both row (products l m) (scale z (z ∷ x)) (squares x) lr in
    let e2 : dot row (scale z (z ∷ x)) ≡ z *ℤ dot row (z ∷ x) = dot-scale row z (z ∷ x) in
    let e3 : dot row (z ∷ x) ≡ dot (scale a (b ∷ m)) (z ∷ x) +ℤ dot (pos 0 ∷ scale b l) (z ∷ x) = plus-dot (scale a (b ∷ m)) (pos 0 ∷ scale b l) (z ∷ x) in
    let e4 : dot (scale a (b ∷ m)) (z ∷ x) ≡ a *ℤ (b *ℤ z +ℤ dot m x) = scale-dot a (b ∷ m) (z ∷ x) in
    let e5 : dot (pos 0 ∷ scale b l) (z ∷ x) ≡ pos 0 *ℤ z +ℤ b *ℤ dot l x = ap (λ n. pos 0 *ℤ z +ℤ n) (scale-dot b l x) in
    let e6 : dot (products l m) (squares x) ≡ dot l x *ℤ dot m x = dot-products n l m x (omega arith) (omega arith) (omega arith) in
    let e7 : dot row (z ∷ x) ≡ a *ℤ (b *ℤ z +ℤ dot m x) +ℤ (pos 0 *ℤ z +ℤ b *ℤ dot l x) = e3 ∙ (λ i. e4 i +ℤ e5 i) in
    e1 ∙ (λ i. (e2 ∙ ap (λ n. z *ℤ n) e7) i +ℤ e6 i) ∙ end a b z (dot l x) (dot m x)
  where
    end : (a b x l m : ℤ) → x *ℤ (a *ℤ (b *ℤ x +ℤ m) +ℤ (pos 0 *ℤ x +ℤ b *ℤ l)) +ℤ l *ℤ m ≡ (a *ℤ x +ℤ l) *ℤ (b *ℤ x +ℤ m)
    end a b x l m =
        ring (a ∷ b ∷ x ∷ l ∷ m ∷ []) (var 2 ⊗ (var 0 ⊗ (var 1 ⊗ var 2 ⊕ var 4) ⊕ (num (pos 0) ⊗ var 2 ⊕ var 1 ⊗ var 3)) ⊕ var 3 ⊗ var 4) ((var 0 ⊗ var 2 ⊕ var 3) ⊗ (var 1 ⊗ var 2 ⊕ var 4)) tt

apply-append : (u v : List (List ℤ)) (x : List ℤ) → apply (u ++ v) x ≡ apply u x ++ apply v x
apply-append [] v x = refl
apply-append (r ∷ u) v x = ap (λ l. dot r x ∷ l) (apply-append u v x)

apply-products : (n : ℕ) (r x : List ℤ) (u : List (List ℤ)) → length r ≡ n → length x ≡ n → AllOfDimension n u → apply (map (products r) u) (squares x) ≡ scale (dot r x) (apply u x)
apply-products n r x [] lr lx all = refl
apply-products n r x (s ∷ u) lr lx all = rw (dot-products n r s x lr all.0 lx, apply-products n r x u lr lx all.1) refl

pub squares-apply : (n : ℕ) (u : List (List ℤ)) (x : List ℤ) → AllOfDimension n u → length x ≡ n → squares (apply u x) ≡ apply (induced u) (squares x)
squares-apply n [] x all lx = refl
squares-apply n (r ∷ u) x all lx =
    let e1 : apply (induced (r ∷ u)) (squares x) ≡ apply (map (products r) (r ∷ u)) (squares x) ++ apply (induced u) (squares x) = apply-append (map (products r) (r ∷ u)) (induced u) (squares x) in
    let e2 : apply (map (products r) (r ∷ u)) (squares x) ≡ scale (dot r x) (apply (r ∷ u) x) = apply-products n r x (r ∷ u) all.0 lx all in
    let e3 : squares (apply u x) ≡ apply (induced u) (squares x) = squares-apply n u x all.1 lx in
    sym (e1 ∙ (λ i. e2 i ++ sym e3 i))

-- the pulled form has at x the value of the form at the image of x
pub value-pulled : (n : ℕ) (q : List ℤ) (u : List (List ℤ)) (x : List ℤ) → AllOfDimension n u → length x ≡ n → value (pulled q u) x ≡ value q (apply u x)
value-pulled n q u x all lx = sym (dot-apply q (induced u) (squares x)) ∙ ap (dot q) (sym (squares-apply n u x all lx))

products_all : (n : ℕ) (r : List ℤ) (u : List (List ℤ)) → length r ≡ n → AllOfDimension n u → AllOfDimension (numbers_of_form n) (map (products r) u)
products_all n r [] lr all = tt
products_all n r (s ∷ u) lr all = (length-products n r s lr all.0, products_all n r u lr all.1)

append_all : (n : ℕ) (u v : List (List ℤ)) → AllOfDimension n u → AllOfDimension n v → AllOfDimension n (u ++ v)
append_all n [] v au av = av
append_all n (r ∷ u) v au av = (au.0, append_all n u v au.1 av)

pub induced_all : (n : ℕ) (u : List (List ℤ)) → AllOfDimension n u → AllOfDimension (numbers_of_form n) (induced u)
induced_all n [] all = tt
induced_all n (r ∷ u) all = append_all (numbers_of_form n) (map (products r) (r ∷ u)) (induced u) (products_all n r (r ∷ u) all.0 all) (induced_all n u all.1)

length-map_products : (r : List ℤ) (u : List (List ℤ)) → length (map (products r) u) ≡ length u
length-map_products r [] = refl
length-map_products r (s ∷ u) = ap suc (length-map_products r u)

length-append_rows : (u v : List (List ℤ)) → length (u ++ v) ≡ length u + length v
length-append_rows [] v = omega arith
length-append_rows (r ∷ u) v = let ih = length-append_rows u v in omega (arith, ih)

pub length-induced : (u : List (List ℤ)) → length (induced u) ≡ numbers_of_form (length u)
length-induced [] = refl
length-induced (r ∷ u) =
    let ih = length-induced u in
    omega (arith, length-append_rows (map (products r) (r ∷ u)) (induced u), length-map_products r (r ∷ u), ih)

pub length-pulled : (d : ℕ) (q : List ℤ) (u : List (List ℤ)) → IsSquare d u → length q ≡ numbers_of_form d → length (pulled q u) ≡ numbers_of_form d
length-pulled zero [] u s l = refl
length-pulled zero (a ∷ q) u s l = absurd (omega arith)
length-pulled (suc d) q u s l = length-combine_at (numbers_of_form (suc d)) (numbers_of_form (suc d)) q (induced u) (induced_all (suc d) u s.columns) l (length-induced u ∙ ap numbers_of_form s.rows) (omega arith)

-- ---- a form is determined by its values

record IsSplit (n m : ℕ) (q : List ℤ) : Type 0 where
  first : List ℤ
  rest : List ℤ
  length_first : length first ≡ n
  length_rest : length rest ≡ m
  both : q ≡ first ++ rest

split : (n m : ℕ) (q : List ℤ) → length q ≡ n + m → IsSplit n m q
split zero m q l = record { first = []; rest = q; length_first = refl; length_rest = omega (arith, l); both = refl }
split (suc n) m [] l = absurd (omega arith)
split (suc n) m (a ∷ q) l =
    let h = split n m q (omega arith) in
    record { first = a ∷ h.first; rest = h.rest; length_first = ap suc h.length_first; length_rest = h.length_rest; both = ap (λ l. a ∷ l) h.both }

value_split : (n : ℕ) (a : ℤ) (r s : List ℤ) (y : ℤ) (ys : List ℤ) → length r ≡ n → length ys ≡ n → value ((a ∷ r) ++ s) (y ∷ ys) ≡ y *ℤ (a *ℤ y +ℤ dot r ys) +ℤ value s ys
value_split n a r s y ys lr ly =
    let e = dot-append_both (a ∷ r) s (scale y (y ∷ ys)) (squares ys) (ap suc (lr ∙ sym ly ∙ sym (length-scale y ys))) in
    e ∙ ap (λ n. n +ℤ value s ys) (dot-scale (a ∷ r) y (y ∷ ys))

-- forms with the same values are the same
pub forms_same : (d : ℕ) (q q' : List ℤ) → length q ≡ numbers_of_form d → length q' ≡ numbers_of_form d → ((x : List ℤ) → length x ≡ d → value q x ≡ value q' x) → q ≡ q'
forms_same zero [] [] l l' h = refl
forms_same zero (a ∷ q) q' l l' h = absurd (omega arith)
forms_same zero [] (a ∷ q') l l' h = absurd (omega arith)
forms_same (suc d) q q' l l' h =
    let k : IsSplit (suc d) (numbers_of_form d) q = split (suc d) (numbers_of_form d) q l in
    let k' : IsSplit (suc d) (numbers_of_form d) q' = split (suc d) (numbers_of_form d) q' l' in
    let ih = forms_same d k.rest k'.rest k.length_rest k'.length_rest in
    k.both ∙ parts k.first k.rest k'.first k'.rest k.length_first k'.length_first ih (λ x lx. ap (λ (n : List ℤ). value n x) (sym k.both) ∙ h x lx ∙ ap (λ (n : List ℤ). value n x) k'.both) ∙ sym k'.both
  where
    parts : (f s f' s' : List ℤ) → length f ≡ suc d → length f' ≡ suc d → (((x : List ℤ) → length x ≡ d → value s x ≡ value s' x) → s ≡ s') → ((x : List ℤ) → length x ≡ suc d → value (f ++ s) x ≡ value (f' ++ s') x) → f ++ s ≡ f' ++ s'
    parts [] s f' s' lf lf' ih h = absurd (omega arith)
    parts (a ∷ r) s [] s' lf lf' ih h = absurd (omega arith)
    parts (a ∷ r) s (a' ∷ r') s' lf lf' ih h =
        let lr : length r ≡ d = omega arith in
        let lr' : length r' ≡ d = omega arith in
        let at : (y : ℤ) (ys : List ℤ) → length ys ≡ d → y *ℤ (a *ℤ y +ℤ dot r ys) +ℤ value s ys ≡ y *ℤ (a' *ℤ y +ℤ dot r' ys) +ℤ value s' ys =
        λ y ys ly. sym (value_split d a r s y ys lr ly) ∙ h (y ∷ ys) (ap suc ly) ∙ value_split d a' r' s' y ys lr' ly
        in
        let rests : s ≡ s' = ih (λ x lx. drop_zero (a *ℤ pos 0 +ℤ dot r x) (a' *ℤ pos 0 +ℤ dot r' x) (value s x) (value s' x) (at (pos 0) x lx)) in
        let ones : (x : List ℤ) → length x ≡ d → a +ℤ dot r x ≡ a' +ℤ dot r' x =
        λ x lx. drop_rest a a' (dot r x) (dot r' x) (value s x) (value s' x) (at (pos 1) x lx) (ap (λ (n : List ℤ). value n x) rests)
        in
        let heads : a ≡ a' = omega (arith, ints, ones (zeros d) (length-zeros d), dot_comm r (zeros d), dot_comm r' (zeros d), zeros-dot d r, zeros-dot d r') in
        let tails : r ≡ r' = same_from_dots_at d r r' lr lr' (λ w lw. dot_comm w r ∙ cancel_head a a' (dot r w) (dot r' w) heads (ones w lw) ∙ dot_comm r' w) in
        cc
      where
        drop_zero : (e e' v v' : ℤ) → pos 0 *ℤ e +ℤ v ≡ pos 0 *ℤ e' +ℤ v' → v ≡ v'
        drop_zero e e' v v' h = omega (arith, ints, h)

        drop_rest : (a a' e e' v v' : ℤ) → pos 1 *ℤ (a *ℤ pos 1 +ℤ e) +ℤ v ≡ pos 1 *ℤ (a' *ℤ pos 1 +ℤ e') +ℤ v' → v ≡ v' → a +ℤ e ≡ a' +ℤ e'
        drop_rest a a' e e' v v' h k = omega (arith, ints, h, k)

        cancel_head : (a a' e e' : ℤ) → a ≡ a' → a +ℤ e ≡ a' +ℤ e' → e ≡ e'
        cancel_head a a' e e' h k = omega (arith, ints, h, k)

-- pulled back and forth, a form is itself
pub pulled_back : (d : ℕ) (u v : List (List ℤ)) (q : List ℤ) → IsUndone d u v → length q ≡ numbers_of_form d → pulled (pulled q v) u ≡ q
pulled_back d u v q h l =
    let l1 : length (pulled q v) ≡ numbers_of_form d = length-pulled d q v h.other l in
    forms_same d (pulled (pulled q v) u) q (length-pulled d (pulled q v) u h.square l1) l
    (λ x lx. value-pulled d (pulled q v) u x h.square.columns lx ∙ value-pulled d q v (apply u x) h.other.columns (length-apply u x ∙ h.square.rows) ∙ ap (value q) (h.left x lx))

pub length-normal : (d : ℕ) (u : List (List ℤ)) (n : List ℤ) → IsSquare d u → length (apply (induced u) n) ≡ numbers_of_form d
length-normal d u n s = length-apply (induced u) n ∙ length-induced u ∙ ap numbers_of_form s.rows

-- a normal carried there and back is itself
pub normal_back : (d : ℕ) (u v : List (List ℤ)) (n : List ℤ) → IsUndone d u v → length n ≡ numbers_of_form d → apply (induced v) (apply (induced u) n) ≡ n
normal_back d u v n h l =
    same_from_dots_at (numbers_of_form d) (apply (induced v) (apply (induced u) n)) n (length-normal d v (apply (induced u) n) h.other) l
    (λ q lq. dot-apply q (induced v) (apply (induced u) n) ∙ dot-apply (pulled q v) (induced u) n ∙ ap (λ (f : List ℤ). dot f n) (pulled_back d u v q h lq))

-- ---- combinations are linear in their numbers

swap_four : (a b c d : List ℤ) → plus (plus a b) (plus c d) ≡ plus (plus a c) (plus b d)
swap_four a b c d = plus_assoc a b (plus c d) ∙ ap (plus a) (sym (plus_assoc b c d) ∙ ap (λ (x : List ℤ). plus x d) (plus_comm b c) ∙ plus_assoc c b d) ∙ sym (plus_assoc a c (plus b d))

pub combine-plus : (a b : List ℤ) (vs : List (List ℤ)) → combine (plus a b) vs ≡ plus (combine a vs) (combine b vs)
combine-plus [] b vs = refl
combine-plus (x ∷ a) [] [] = refl
combine-plus (x ∷ a) [] (v ∷ vs) = plus_comm [] (plus (scale x v) (combine a vs))
combine-plus (x ∷ a) (y ∷ b) [] = refl
combine-plus (x ∷ a) (y ∷ b) (v ∷ vs) = rw (add-scale x y v, combine-plus a b vs) (swap_four (scale x v) (scale y v) (combine a vs) (combine b vs))

pub scale-combine : (k : ℤ) (a : List ℤ) (vs : List (List ℤ)) → combine (scale k a) vs ≡ scale k (combine a vs)
scale-combine k [] vs = refl
scale-combine k (x ∷ a) [] = refl
scale-combine k (x ∷ a) (v ∷ vs) = rw (scale-combine k a vs, ← scale-scale k x v) (sym (scale_plus_here k (scale x v) (combine a vs)))
  where
    scale_plus_here : (k : ℤ) (x y : List ℤ) → scale k (plus x y) ≡ plus (scale k x) (scale k y)
    scale_plus_here k [] y = refl
    scale_plus_here k (a ∷ x) [] = refl
    scale_plus_here k (a ∷ x) (b ∷ y) =
        let e : k *ℤ (a +ℤ b) ≡ k *ℤ a +ℤ k *ℤ b = simp spread (omega (arith, ints)) in
        rw (scale_plus_here k x y, e) refl

-- k W - A, pulled
pub pulled-beyond : (k : ℤ) (w a : List ℤ) (v : List (List ℤ)) → pulled (minus (scale k w) a) v ≡ minus (scale k (pulled w v)) (pulled a v)
pulled-beyond k w a v =
    combine-plus (scale k w) (scale (negsuc 0) a) (induced v) ∙ (λ i. plus (scale-combine k w (induced v) i) (scale-combine (negsuc 0) a (induced v) i))
