-- Each member of a Delaunay triangulation has one signature, and a matrix that carries keeps it.
use Rattle.std.proofs.Common.{◌≡◌, ℕ, suc, ℤ, pos, ◌*ℤ◌, ◌<◌, ap, arith, sym, ◌∙◌, subst, List, [], ◌∷◌, map, drop, get_or}
use Rattle.std.proofs.lemmas.Int.{ints}
use Rattle.std.proofs.lemmas.Cmp.{int_cmp_total}
use Rattle.std.proofs.lemmas.List.{get_or_default, same_lists}
use Rattle.std.specs.FinMap.{int_cmp-IsAntisymmetric}
use Rattle.std.specs.List.{Contains}
use Rattle.std.specs.Ordering.{int_cmp}
use Rattle.lt_model.specs.Flat.{flat}
use Rattle.lt_model.specs.Facets.{number_at}
use Rattle.lt_model.specs.Matrices.{apply, Carries}
use Rattle.lt_model.specs.Order.{number_list_cmp}
use Rattle.lt_model.specs.Simplices.{IsSimplex, IsClassOf, IsExpression, translate}
use Rattle.lt_model.specs.Triangulations.{IsDelaunay}
use Rattle.lt_model.specs.Vectors.{scale, dot, IsPrimitive}
use Rattle.lt_model.proofs.Sets.{number_list_cmp_total}
use Rattle.lt_model.proofs.Vectors.{dot-scale}
use Rattle.lt_model.proofs.Inequalities.{natural}
use Rattle.lt_geometry.proofs.FirstLaws.{proportional}
use Rattle.lt_geometry.proofs.Primitive.{same_primitive}
use Rattle.lt_geometry.proofs.Sides.{unique_neighbour}
use Rattle.lt_geometry.proofs.Sorting.{number_list_cmp_exact}
use Rattle.lt_colour.specs.Signatures.{IsInOrder, AreNumbersFrom, IsPairSignature, IsClassSignature, ArePairSignatures}
use Rattle.lt_colour.proofs.Ordered.{one_order}
use Rattle.lt_colour.proofs.Signed.{signature_carried}

-- a point has one primitive expression
pub one_primitive : (d : ℕ) (vs : List (List ℤ)) (x : List ℤ) (c c' : ℤ) (b b' : List ℤ) → IsSimplex d vs → IsExpression vs x c b → IsExpression vs x c' b' → IsPrimitive (c ∷ b) → IsPrimitive (c' ∷ b') → c ∷ b ≡ c' ∷ b'
one_primitive d vs x c c' b b' s e e' p p' =
    let n = natural c e.positive in
    let n' = natural c' e'.positive in
    let same : scale c' b ≡ scale c b' = proportional d vs x c c' b b' s e e' in
    let first : c' *ℤ c ≡ c *ℤ c' = omega (arith, ints) in
    let whole : scale c' (c ∷ b) ≡ scale c (c' ∷ b') = λ i. first i ∷ same i in
    let lists : scale (pos n'.0) (c ∷ b) ≡ scale (pos n.0) (c' ∷ b') = ap (λ (z : ℤ). scale z (c ∷ b)) (sym n'.1) ∙ whole ∙ ap (λ (z : ℤ). scale z (c' ∷ b')) n.1 in
    same_primitive n'.0 n.0 (c ∷ b) (c' ∷ b') n'.2 n.2 (ap suc (e.one_each ∙ sym e'.one_each)) p p'
    (λ u. sym (dot-scale u (pos n'.0) (c ∷ b)) ∙ ap (dot u) lists ∙ dot-scale u (pos n.0) (c' ∷ b'))

one_list : (i : ℕ) (c c' : ℤ) (b b' sig sig' : List ℤ) → c ∷ b ≡ c' ∷ b' → AreNumbersFrom i c b sig → AreNumbersFrom i c' b' sig' → sig ≡ sig'
one_list i c c' b b' sig sig' same g h =
    let first : c ≡ c' = ap (λ (l : List ℤ). get_or l 0 (pos 0)) same in
    let rest : b ≡ b' = ap (λ (l : List ℤ). drop 1 l) same in
    both (subst (λ (y : List ℤ). AreNumbersFrom i c' y sig) rest (subst (λ (z : ℤ). AreNumbersFrom i z b sig) first g))
  where
    both : AreNumbersFrom i c' b' sig → sig ≡ sig'
    both k =
        let others : k.others ≡ h.others = one_order int_cmp int_cmp_total int_cmp-IsAntisymmetric _ k.others h.others k.in_order h.in_order in
        k.is ∙ ap (λ (l : List ℤ). c' ∷ number_at i b' ∷ l) others ∙ sym h.is

-- a facet of a member has one pair signature
pub one_pair : (d : ℕ) (q : List ℤ) (t : List (List (List ℤ))) (s : List (List ℤ)) (i : ℕ) (sig sig' : List ℤ) → IsDelaunay d q t → Contains t s → i < suc d → IsPairSignature d t s i sig → IsPairSignature d t s i sig' → sig ≡ sig'
one_pair d q t s i sig sig' k m hi g h =
    let n = unique_neighbour d q t s i g.next h.next g.shift h.shift g.outer h.outer k m hi g.neighbour h.neighbour in
    let w : get_or (translate g.shift g.next) g.outer [] ≡ get_or (translate h.shift h.next) h.outer [] = λ j. get_or (translate (n.1 j) (n.0 j)) (n.2 j) [] in
    let e : IsExpression s (get_or (translate h.shift h.next) h.outer []) g.c g.b = subst (λ (x : List ℤ). IsExpression s x g.c g.b) w g.expression in
    let same : g.c ∷ g.b ≡ h.c ∷ h.b = one_primitive d s (get_or (translate h.shift h.next) h.outer []) g.c h.c g.b h.b ((k.members s).0 m).0.simplex e h.expression g.primitive h.primitive in
    one_list i g.c h.c g.b h.b sig sig' same g.numbers h.numbers

one_pairs : (d : ℕ) (q : List ℤ) (t : List (List (List ℤ))) (s : List (List ℤ)) (ps ps' : List (List ℤ)) → IsDelaunay d q t → Contains t s → ArePairSignatures d t s ps → ArePairSignatures d t s ps' → ps ≡ ps'
one_pairs d q t s ps ps' k m g h =
    same_lists ps ps' (g.count ∙ sym h.count)
    (λ i e l. (let hi : i < suc d = omega (arith, l, g.count) in
    get_or_default ps i e [] l ∙ one_pair d q t s i (get_or ps i []) (get_or ps' i []) k m hi (g.each i hi) (h.each i hi) ∙ get_or_default ps' i [] e (omega (arith, hi, h.count))))

-- a member has one signature
pub one_signature : (d : ℕ) (q : List ℤ) (t : List (List (List ℤ))) (s : List (List ℤ)) (a b : List ℤ) → IsDelaunay d q t → Contains t s → IsClassSignature d t s a → IsClassSignature d t s b → a ≡ b
one_signature d q t s a b k m g h =
    let pairs : g.pairs ≡ h.pairs = one_pairs d q t s g.pairs h.pairs k m g.signatures h.signatures in
    let ascending : g.ascending ≡ h.ascending =
    one_order number_list_cmp number_list_cmp_total number_list_cmp_exact h.pairs g.ascending h.ascending (subst (λ (l : List (List ℤ)). IsInOrder number_list_cmp l g.ascending) pairs g.in_order) h.in_order
    in
    g.is ∙ ap flat ascending ∙ sym h.is

-- a matrix that carries takes a member to one with the same signature
pub same_signature : (d : ℕ) (q q2 : List ℤ) (u : List (List ℤ)) (t t2 : List (List (List ℤ))) (s s2 : List (List ℤ)) (a b : List ℤ) → IsDelaunay d q t → IsDelaunay d q2 t2 → Carries d u t t2 → Contains t s → IsClassOf d (map (apply u) s) s2 →
    IsClassSignature d t s a → IsClassSignature d t2 s2 b → a ≡ b
same_signature d q q2 u t t2 s s2 a b k k2 h m c g g2 =
    one_signature d q2 t2 s2 a b k2 ((h.members s2).1 (s, m, c)) (signature_carried d u t t2 s s2 a (λ r n. ((k.members r).0 n).0) h m c g) g2
