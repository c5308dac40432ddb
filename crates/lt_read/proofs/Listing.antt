-- Classes of a text compared with those that it has to list, place by place.
use Rattle.std.proofs.Common.{◌≡◌, ◌↔◌, ℕ, ◌+◌, ◌<◌, ◌≤◌, ℤ, Bool, true, false, cond, refl, sym, ap, ◌∙◌, arith, List, [], ◌∷◌, ◌++◌, filter, map, take, drop, length, get_or}
use Rattle.std.specs.Prelude.{nat_eq, ◌||◌}
use Rattle.std.proofs.lemmas.List.{get_or-map, get_or_push, get_or_append_left, length-map, length-append, length-take-le, length_push, map_push, take_all, take_more}
use Rattle.lt_model.specs.Negatives.{comes_first, half}
use Rattle.lt_model.specs.Atlases.{Classes}
use Rattle.lt_model.proofs.Filtered.{one_passes, none_passes, where_passing}
use Rattle.lt_text.specs.Texts.{class_numbers}
use Rattle.lt_text.specs.Values.{listed}

-- whether a text of the version lists a class
abbrev pub is_listed : ℕ → List (List ℤ) → Bool
is_listed version s = nat_eq version 1 || comes_first s

all_pass : (t : Classes) → t ≡ filter (λ s. true) t
all_pass [] = refl
all_pass (s ∷ t) = ap (λ (l : Classes). s ∷ l) (all_pass t)

listed_is : (version : ℕ) (t : Classes) → listed version t ≡ filter (is_listed version) t
listed_is version t = by (nat_eq version 1)
  where
    by : (b : Bool) → cond b t (half t) ≡ filter (λ s. b || comes_first s) t
    by true = all_pass t
    by false = refl

module _ (version : ℕ) (t : Classes) (cs : List (List ℤ)) (i place : ℕ) (within : place ≤ length cs) (same : map class_numbers (filter (is_listed version) (take i t)) ≡ take place cs) where
  abbrev before : Classes
  before = filter (is_listed version) (take i t)

  long : length before ≡ place
  long = sym (length-map before class_numbers) ∙ ap length same ∙ length-take-le place cs within

  module _ (s : List (List ℤ)) (lt : i < length t) (is : s ≡ get_or t i []) where
    pub passed_over : is_listed version s ≡ false → map class_numbers (filter (is_listed version) (take (i + 1) t)) ≡ take place cs
    passed_over e = ap (map class_numbers) (none_passes (is_listed version) t i s [] lt is e) ∙ same

    module _ (e : is_listed version s ≡ true) where
      abbrev behind : Classes
      behind = filter (is_listed version) (drop (i + 1) t)

      all_listed : (before ++ (s ∷ [])) ++ behind ≡ listed version t
      all_listed = where_passing (is_listed version) t i s [] lt is e ∙ sym (listed_is version t)

      pub too_many : place ≡ length cs → map class_numbers (listed version t) ≡ cs → ⊥
      too_many full h =
          let a = length-append (before ++ (s ∷ [])) behind in
          let b : length ((before ++ (s ∷ [])) ++ behind) ≡ length cs = ap length all_listed ∙ sym (length-map (listed version t) class_numbers) ∙ ap length h in
          omega (arith, a, b, length_push before s, long, full)

      pub there : map class_numbers (listed version t) ≡ cs → class_numbers s ≡ get_or cs place []
      there h =
          let a = length_push before s in
          let p : place < length (before ++ (s ∷ [])) = omega (arith, a, long) in
          let b = length-append (before ++ (s ∷ [])) behind in
          let here : get_or ((before ++ (s ∷ [])) ++ behind) place [] ≡ s = get_or_append_left (before ++ (s ∷ [])) behind [] place p ∙ get_or_push before s [] place long in
          sym (ap class_numbers here) ∙ sym (get_or-map class_numbers ((before ++ (s ∷ [])) ++ behind) place [] [] (omega (arith, p, b))) ∙ ap (λ (l : Classes). get_or (map class_numbers l) place []) all_listed ∙ ap (λ (l : List (List ℤ)). get_or l place []) h

      pub one_more : place < length cs → class_numbers s ≡ get_or cs place [] → map class_numbers (filter (is_listed version) (take (i + 1) t)) ≡ take (place + 1) cs
      one_more room h =
          ap (map class_numbers) (one_passes (is_listed version) t i s [] lt is e) ∙ map_push class_numbers before s
          ∙ ap (λ (l : List (List ℤ)). l ++ (class_numbers s ∷ [])) same ∙ ap (λ (c : List ℤ). take place cs ++ (c ∷ [])) h ∙ sym (take_more cs place [] room)

  pub at_end : length t ≤ i → (place ≡ length cs) ↔ (map class_numbers (listed version t) ≡ cs)
  at_end le =
      let whole : map class_numbers (listed version t) ≡ take place cs = ap (map class_numbers) (listed_is version t ∙ ap (filter (is_listed version)) (sym (take_all i t le))) ∙ same in (
        (λ e. whole ∙ take_all place cs (omega (arith, e))),
        λ h. sym (length-take-le place cs within) ∙ ap length (sym whole ∙ h),
      )
