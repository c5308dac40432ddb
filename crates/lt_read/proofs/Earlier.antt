-- The first of the entries that have passed.
use Rattle.std.proofs.Common.{◌≡◌, ℕ, ◌<◌, ◌≤◌, sym, ap, ◌∙◌, subst, arith, List, [], take}
use Rattle.std.proofs.lemmas.List.{get_or-take, length-take-le}
use Rattle.lt_model.specs.Cones.{IsRightCone}
use Rattle.lt_model.specs.Atlases.{Classes}
use Rattle.lt_grammar.specs.Texts.{Entry}
use Rattle.lt_read.specs.Refused.{entry_at, at, IsListed, HavePassed}
use Rattle.lt_read.proofs.Passing.{listed_same}
use Rattle.lt_read.proofs.OnePassing.{one_passed}

pub front_passed : (version d : ℕ) (es : List Entry) (ts : List Classes) (m n : ℕ) → m ≤ n → HavePassed version d es ts n → HavePassed version d es (take m ts) m
front_passed version d es ts m n le h = record {
  long = let l = h.long in length-take-le m ts (omega (arith, l, le));
  listed = λ k s.
      let same : at ts k ≡ at (take m ts) k = sym (get_or-take m ts k [] s) in
      subst (IsListed version d es (take m ts) k) same (listed_same version d es ts (take m ts) k (at ts k) (λ i r. sym (get_or-take m ts i [] (omega (arith, r, s)))) (h.listed k (omega (arith, s, le))));
  cones = λ k s. subst (λ (z : Classes). IsRightCone d z (entry_at es k).cone) (sym (get_or-take m ts k [] s)) (h.cones k (omega (arith, s, le)));
}

-- they have the same triangulations, however many passed
pub same_front : (version d : ℕ) (es : List Entry) (us ts : List Classes) (m n : ℕ) → 2 ≤ d → m ≤ n → HavePassed version d es us m → HavePassed version d es ts n → (i : ℕ) → i < m → at us i ≡ at ts i
same_front version d es us ts m n low le g h i s = ap (λ (z : List Classes). at z i) (one_passed version d es us (take m ts) m low g (front_passed version d es ts m n le h)) ∙ get_or-take m ts i [] s
