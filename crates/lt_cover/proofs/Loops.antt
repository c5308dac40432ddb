-- Lists that are made member by member from the rest of a list.
use Rattle.std.proofs.Common.{◌≡◌, ℕ, suc, ℤ, ◌+◌, ◌-◌, ◌*◌, ◌<◌, ◌≤◌, refl, ap, arith, sym, ◌∙◌, List, [], ◌∷◌, ◌++◌, length, map, drop, get_or, append_assoc, add-one, drop-cons, mul-le-mul}
use Rattle.std.proofs.lemmas.List.{length-append, length-drop, length-map}
use Rattle.lt_model.specs.Flat.{flat}

next : (s : List (List ℤ)) (i : ℕ) → i < length s → drop i s ≡ get_or s i [] ∷ drop (i + 1) s
next s i h = rw (add-one i, drop-cons s i []) refl

module _ (f : List ℤ → ℤ) (s : List (List ℤ)) where
  -- how many numbers there are
  counted : (i : ℕ) (all goal : List ℤ) → all ++ map f (drop i s) ≡ goal → length all + (length s - i) ≡ length goal
  counted i all goal g = ap (λ (n : ℕ). length all + n) (sym (length-map (drop i s) f ∙ length-drop i s)) ∙ sym (length-append all (map f (drop i s))) ∙ ap length g

  pub room_left : (i : ℕ) (all init : List ℤ) → i < length s → 1 ≤ i → all ++ map f (drop i s) ≡ init ++ map f (drop 1 s) → length all + 1 < length init + length s
  room_left i all init h l g =
      let a = counted i all (init ++ map f (drop 1 s)) g in
      let b = counted 1 init (init ++ map f (drop 1 s)) refl in
      omega (arith, a, b)

  pub few_left : (i : ℕ) (all : List ℤ) → i < length s → 1 ≤ i → all ++ map f (drop i s) ≡ map f (drop 1 s) → length all + 1 < length s
  few_left i all h l g =
      let a = counted i all (map f (drop 1 s)) g in
      let b : length (map f (drop 1 s)) ≡ length s - 1 = length-map (drop 1 s) f ∙ length-drop 1 s in
      omega (arith, a, b)

module _ (f : List ℤ → List ℤ) (s : List (List ℤ)) where
  pub column_pushed : (i : ℕ) (all new goal : List ℤ) → i < length s → new ≡ all ++ f (get_or s i []) → all ++ flat (map f (drop i s)) ≡ goal → new ++ flat (map f (drop (i + 1) s)) ≡ goal
  column_pushed i all new goal h e g =
      ap (λ (l : List ℤ). l ++ flat (map f (drop (i + 1) s))) e
      ∙ append_assoc all (f (get_or s i [])) (flat (map f (drop (i + 1) s)))
      ∙ ap (λ (l : List ℤ). all ++ l) (sym (ap (λ (l : List (List ℤ)). flat (map f l)) (next s i h)))
      ∙ g

  length_columns : (d : ℕ) → ((w : List ℤ) → length (f w) ≡ d) → (ws : List (List ℤ)) → length (flat (map f ws)) ≡ length ws * d
  length_columns d h [] = omega arith
  length_columns d h (w ∷ ws) =
      let e = length-append (f w) (flat (map f ws)) in
      let r = length_columns d h ws in
      let l = h w in
      omega (arith, e, r, l)

  pub column_room : (d i : ℕ) (all : List ℤ) → d ≤ 6 → length s ≡ suc d → ((w : List ℤ) → length (f w) ≡ d) → i < length s → 1 ≤ i → all ++ flat (map f (drop i s)) ≡ flat (map f (drop 1 s)) → length all + length s ≤ 37
  column_room d i all high count h l one g =
      let a : length all + (length s - i) * d ≡ (length s - 1) * d =
      ap (λ (n : ℕ). length all + n) (sym (length_columns d h (drop i s) ∙ ap (λ (n : ℕ). n * d) (length-drop i s))) ∙ sym (length-append all (flat (map f (drop i s)))) ∙ ap length g ∙ length_columns d h (drop 1 s) ∙ ap (λ (n : ℕ). n * d) (length-drop 1 s) in
      let few : length s - 1 ≤ 6 = omega (arith, count, high) in
      let b : (length s - 1) * d ≤ 36 = mul-le-mul few high in
      let left : 1 ≤ length s - i = omega arith in
      let c : 1 * d ≤ (length s - i) * d = mul-le-mul left (same d) in
      omega (arith, a, b, c, count)
    where
      same : (d : ℕ) → d ≤ d
      same d = omega arith
