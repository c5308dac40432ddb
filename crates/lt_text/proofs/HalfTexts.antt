-- The half of a list of classes, class by class, and the vertices of a negative, vertex by vertex.
use Rattle.std.proofs.Common.{◌≡◌, ℕ, ◌+◌, ◌-◌, ◌*◌, ◌^◌, ◌<◌, ℤ, negsuc, true, List, [], ◌∷◌, ◌++◌, take, drop, length, get_or, reverse, sym, ap, subst, arith, ◌∙◌, Option}
use Rattle.std.specs.List.{All, flat_map}
use Rattle.std.proofs.lemmas.List as lists
use Rattle.std.proofs.lemmas.List.{append-nil, take_more, get_or-reverse, length-reverse}
use Rattle.std.proofs.lemmas.List.Concat.{flat_map-append}
use Rattle.std.proofs.lemmas.List.Elements.{Contains-get_or}
use Rattle.lt_io.specs.Bytes.{AppendsFront}
use Rattle.lt_lattice.specs.Ranges.{IsWithin}
use Rattle.lt_model.specs.Limits.{span_limit}
use Rattle.lt_model.specs.Vectors.{plus, minus, scale}
use Rattle.lt_model.specs.Negatives.{negated, negative, comes_first, half}
use Rattle.lt_model.proofs.Filtered.{one_passes, where_passing}
use Rattle.lt_model.proofs.Vectors.{plus_comm}
use Rattle.lt_triang.specs.Bounds.{AreNear}
use Rattle.lt_triang.proofs.Gaps.{twice_limit}
use Rattle.lt_triang.proofs.Steps.{near_more}
use Rattle.lt_text.specs.Gathered.{Gains}
use Rattle.lt_text.specs.Texts.{class_line, class_lines}
use Rattle.lt_text.proofs.Composed.{gained_then, gained_then_front, front_of_all}

-- ---- vertices

length-negative : (s : List (List ℤ)) → length (negative s) ≡ length s
length-negative s = lists.length-map (reverse (negated s)) (λ v. plus v (get_or s (length s - 1) [])) ∙ length-reverse (negated s) ∙ lists.length-map s (scale (negsuc 0))

module _ (s : List (List ℤ)) (i : ℕ) (lt : i < length s) where
  vertex : get_or (negative s) i [] ≡ minus (get_or s (length s - 1) []) (get_or s (length s - 1 - i) [])
  vertex =
      let n : length (negated s) ≡ length s = lists.length-map s (scale (negsuc 0)) in
      let m : length (reverse (negated s)) ≡ length s = length-reverse (negated s) ∙ n in
      let k : length (negated s) - 1 - i ≡ length s - 1 - i = omega (arith, n) in
      let at : get_or (reverse (negated s)) i [] ≡ scale (negsuc 0) (get_or s (length s - 1 - i) []) =
      get_or-reverse (negated s) i [] (omega (arith, n, lt)) ∙ ap (λ (j : ℕ). get_or (negated s) j []) k ∙ lists.get_or-map (scale (negsuc 0)) s (length s - 1 - i) [] [] (omega (arith, lt)) in
      lists.get_or-map (λ v. plus v (get_or s (length s - 1) [])) (reverse (negated s)) i [] [] (omega (arith, m, lt)) ∙ ap (λ (v : List ℤ). plus v (get_or s (length s - 1) [])) at ∙ plus_comm (scale (negsuc 0) (get_or s (length s - 1 - i) [])) (get_or s (length s - 1) [])

  -- one vertex more
  pub one_vertex_more : (p : List ℤ) → p ≡ minus (get_or s (length s - 1) []) (get_or s (length s - 1 - i) []) → take i (negative s) ++ (p ∷ []) ≡ take (i + 1) (negative s)
  one_vertex_more p is =
      ap (λ (v : List ℤ). take i (negative s) ++ (v ∷ [])) (is ∙ sym vertex) ∙ sym (take_more (negative s) i [] (omega (arith, length-negative s, lt)))

-- ---- classes

-- the class s at place i is in the half
module _ (t : List (List (List ℤ))) (i : ℕ) (s : List (List ℤ)) (lt : i < length t) (is : s ≡ get_or t i []) where
  -- whole lines of those before, and a front of the line of this class
  pub front_in_half : (a b c : Option (List ℕ)) (p q : List ℕ) → comes_first s ≡ true → Gains a b p q (class_lines (half (take i t))) → AppendsFront b c (q ++ class_line s) → AppendsFront a c (p ++ class_lines (half t))
  front_in_half a b c p q e m n =
      let before = class_lines (half (take i t)) in
      let after = class_lines (half (drop (i + 1) t)) in
      let whole : (before ++ class_line s) ++ after ≡ class_lines (half t) =
      ap (λ (l : List ℕ). (before ++ l) ++ after) (sym (append-nil (class_line s)))
      ∙ ap (λ (l : List ℕ). l ++ after) (sym (flat_map-append class_line (half (take i t)) (s ∷ [])))
      ∙ sym (flat_map-append class_line (half (take i t) ++ (s ∷ [])) (half (drop (i + 1) t)))
      ∙ ap class_lines (where_passing comes_first t i s [] lt is e) in
      subst (λ (l : List ℕ). AppendsFront a c (p ++ l)) whole (front_of_all a c p (before ++ class_line s) after (gained_then_front a b c p q before (class_line s) m n))

  -- and the whole line
  pub one_line_more : (a b c : Option (List ℕ)) (p q r : List ℕ) → comes_first s ≡ true → Gains a b p q (class_lines (half (take i t))) → Gains b c q r (class_line s) → Gains a c p r (class_lines (half (take (i + 1) t)))
  one_line_more a b c p q r e m n =
      let before = class_lines (half (take i t)) in
      subst (λ (l : List ℕ). Gains a c p r l)
      (ap (λ (l : List ℕ). before ++ l) (sym (append-nil (class_line s))) ∙ sym (flat_map-append class_line (half (take i t)) (s ∷ [])) ∙ ap class_lines (sym (one_passes comes_first t i s [] lt is e)))
      (gained_then a b c p q r before (class_line s) m n)
