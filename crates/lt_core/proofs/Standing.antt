-- The loops that compare marks, entries and events.
use Rattle.std.proofs.Common.{◌≡◌, ℕ, zero, suc, ℤ, ◌+◌, ◌*◌, ◌<◌, ◌≤◌, refl, ap, arith, sym, ◌∙◌, subst, List, [], ◌∷◌, ◌++◌, length, get_or, take, map, inl, inr, ◌↔◌, Vec}
use Rattle.std.specs.Prelude.{Bool, true, false, cond, nat_eq, IsTrue}
use Rattle.std.specs.Ordering.{int_eq}
use Rattle.std.specs.Bool.{Decides}
use Rattle.std.specs.Cmp.{unsigned_Decides, signed_Decides}
use Rattle.std.specs.Cmp.Lexicographic.{pointwise, pointwise_decides}
use Rattle.std.proofs.lemmas.Bool.{cases_lt, false≢true}
use Rattle.std.proofs.lemmas.List.{get_or-map, length-map, length-take-le, map_more}
use Rattle.lt_model.specs.Flat.{rows, flat}
use Rattle.lt_model.proofs.Flat.{flat-rows}
use Rattle.lt_model.specs.Atlases as model
use Rattle.lt_core.specs.declared.marks.Mark.{Mark}
use Rattle.lt_core.specs.declared.marks.Entry.{Entry}
use Rattle.lt_core.specs.declared.marks.Event.{Event}
use Rattle.lt_core.specs.Marks.{side, matrix_rows, mark_of, marks_of, entry_of, event_of}
use Rattle.lt_core.specs.Beginnings.{fresh_events, Stands, AreStanding}
use Rattle.lt_core.proofs.Recording.{cross_parts}
use Rattle.lt_core.proofs.Undone.{fresh-append}

-- ---- crossings

pub side_of : (d : ℕ) → 2 ≤ d → d ≤ 6 → side (d * d) ≡ d
side_of zero low high = absurd (omega arith)
side_of (suc zero) low high = absurd (omega arith)
side_of (suc (suc zero)) low high = refl
side_of (suc (suc (suc zero))) low high = refl
side_of (suc (suc (suc (suc zero)))) low high = refl
side_of (suc (suc (suc (suc (suc zero))))) low high = refl
side_of (suc (suc (suc (suc (suc (suc zero)))))) low high = refl
side_of (suc (suc (suc (suc (suc (suc (suc d))))))) low high = absurd (omega arith)

-- the rows of a square matrix, which its length tells
pub square_rows : (d : ℕ) (u : List ℤ) → 2 ≤ d → d ≤ 6 → length u ≡ d * d → matrix_rows u ≡ rows d u
square_rows d u low high long = ap (λ n. rows n u) (ap side long ∙ side_of d low high)

pub flat-matrix_rows : (d : ℕ) (u : List ℤ) → 2 ≤ d → d ≤ 6 → length u ≡ d * d → flat (matrix_rows u) ≡ u
flat-matrix_rows d u low high long = ap (λ n. flat (rows n u)) (ap side long ∙ side_of d low high) ∙ flat-rows d u long

pub same_crosses : (i j : ℕ) (u v : List ℤ) (r : Bool) → flat (matrix_rows u) ≡ u → flat (matrix_rows v) ≡ v → i ≡ j → r ≡ pointwise int_eq u v → IsTrue r ↔ (model.cross i (matrix_rows u) ≡ model.cross j (matrix_rows v))
same_crosses i j u v r fu fv s e =
    let d = pointwise_decides signed_Decides u v in (
      λ t. ap (λ k. model.cross k (matrix_rows u)) s ∙ ap (λ w. model.cross j (matrix_rows w)) (d.0 (sym e ∙ t)),
      λ c. e ∙ d.1 (sym fu ∙ ap flat (cross_parts i j (matrix_rows u) (matrix_rows v) c).1 ∙ fv),
    )

-- ---- wide classes

wide_parts : (s t : List (List ℤ)) (m n : ℕ) → model.wide s m ≡ model.wide t n → (s ≡ t) × (m ≡ n)
wide_parts s t m n e = (cc, cc)

simplex_decides : (s t : List (List ℤ)) → Decides (pointwise (pointwise int_eq) s t) (s ≡ t)
simplex_decides s t = pointwise_decides (pointwise_decides signed_Decides) s t

pub same_wides : (s t : List (List ℤ)) (m n : ℕ) → pointwise (pointwise int_eq) s t ≡ true → IsTrue (nat_eq m n) ↔ (model.wide s m ≡ model.wide t n)
same_wides s t m n e = (
  λ h. ap (λ x. model.wide x m) ((simplex_decides s t).0 e) ∙ ap (model.wide t) ((unsigned_Decides m n).0 h),
  λ c. (unsigned_Decides m n).1 (wide_parts s t m n c).1,
)

pub other_wides : (s t : List (List ℤ)) (m n : ℕ) (r : Bool) → r ≡ pointwise (pointwise int_eq) s t → r ≡ false → IsTrue r ↔ (model.wide s m ≡ model.wide t n)
other_wides s t m n r e f = (λ h. absurd (false≢true (sym f ∙ h)), λ c. e ∙ (simplex_decides s t).1 (wide_parts s t m n c).0)

-- ---- loops

pub one_more : (P : ℕ → Type 0) (i : ℕ) → ((f : ℕ) → f < i → P f) → P i → (f : ℕ) → f < i + 1 → P f
one_more P i h p f l = elim (cases_lt f i) [ inl b ↦ h f b | inr b ↦ (let e : i ≡ f = omega arith in subst P e p) ]

mark_read : (ms : List Mark) (i : ℕ) (m : Mark) → i < length ms → m ≡ get_or ms i m → mark_of m ≡ get_or (map mark_of ms) i model.no_mark
mark_read ms i m h e = ap mark_of e ∙ sym (get_or-map mark_of ms i m model.no_mark h)

pub mark_stands : (ms ns : List Mark) (i : ℕ) (m n : Mark) → i < length ms → i < length ns → m ≡ get_or ms i m → n ≡ get_or ns i n → Stands (mark_of m) (mark_of n) ≡ Stands (get_or (map mark_of ms) i model.no_mark) (get_or (map mark_of ns) i model.no_mark)
mark_stands ms ns i m n hm hn em en = ap (λ x. Stands x (mark_of n)) (mark_read ms i m hm em) ∙ ap (Stands (get_or (map mark_of ms) i model.no_mark)) (mark_read ns i n hn en)

module _ {Z : Type 0} where
  pub row_read : (mss : List (Vec Mark Z)) (k : ℕ) (r : Vec Mark Z) → k < length mss → r ≡ get_or mss k r → map mark_of r.items ≡ get_or (marks_of mss) k []
  row_read mss k r h e = ap (λ (v : Vec Mark Z). map mark_of v.items) e ∙ sym (get_or-map (λ (v : Vec Mark Z). map mark_of v.items) mss k r [] h)

  pub row_stands : (mss nss : List (Vec Mark Z)) (k : ℕ) (r s : Vec Mark Z) (ms ns : List Mark) → k < length mss → k < length nss → r ≡ get_or mss k r → s ≡ get_or nss k s → ms ≡ r.items → ns ≡ s.items →
      AreStanding (map mark_of ms) (map mark_of ns) ≡ AreStanding (get_or (marks_of mss) k []) (get_or (marks_of nss) k [])
  row_stands mss nss k r s ms ns hm hn er es em en =
      ap (λ x. AreStanding x (map mark_of ns)) (ap (map mark_of) em ∙ row_read mss k r hm er)
      ∙ ap (AreStanding (get_or (marks_of mss) k [])) (ap (map mark_of) en ∙ row_read nss k s hn es)

  pub row_length : (mss : List (Vec Mark Z)) (k : ℕ) (r : Vec Mark Z) (ms : List Mark) → k < length mss → r ≡ get_or mss k r → ms ≡ r.items → length ms ≡ length (get_or (marks_of mss) k [])
  row_length mss k r ms h e em = sym (length-map ms mark_of) ∙ ap (λ x. length (map mark_of x)) em ∙ ap length (row_read mss k r h e)

pub other_entry : (xs ys : List Entry) (i : ℕ) (x y : Entry) → i < length xs → i < length ys → x ≡ get_or xs i x → y ≡ get_or ys i y → map entry_of xs ≡ map entry_of ys → entry_of x ≡ entry_of y
other_entry xs ys i x y hx hy ex ey e =
    ap entry_of ex ∙ sym (get_or-map entry_of xs i x model.no_entry hx) ∙ ap (λ l. get_or l i model.no_entry) e ∙ get_or-map entry_of ys i y model.no_entry hy ∙ ap entry_of (sym ey)

-- ---- fresh events

pub fresh_more : (log : List Event) (i : ℕ) (e : Event) → i < length log → e ≡ get_or log i e → fresh_events (map event_of (take (i + 1) log)) ≡ fresh_events (map event_of (take i log)) + cond e.fresh 1 0
fresh_more log i e h s =
    let z : cond e.fresh 1 0 + 0 ≡ cond e.fresh 1 0 = omega arith in
    ap fresh_events (map_more event_of log i e h ∙ ap (λ x. map event_of (take i log) ++ event_of x ∷ []) (sym s))
    ∙ fresh-append (map event_of (take i log)) (event_of e ∷ [])
    ∙ ap (λ n. fresh_events (map event_of (take i log)) + n) z

few_fresh : (l : List model.Event) → fresh_events l ≤ length l
few_fresh [] = omega arith
few_fresh (e ∷ l) = let h = few_fresh l in let k = once e.fresh in omega arith
  where
    once : (b : Bool) → cond b 1 0 ≤ 1
    once true = omega arith
    once false = omega arith

pub fresh_so_far : (log : List Event) (i : ℕ) → i < length log → fresh_events (map event_of (take i log)) ≤ i
fresh_so_far log i h =
    let l = length-map (take i log) event_of in
    let t = length-take-le i log (omega arith) in
    let f = few_fresh (map event_of (take i log)) in
    omega arith
