-- The commands that print counts and lists have one output each.
use Rattle.std.proofs.Common.{◌≡◌, ℕ, zero, suc, ℤ, ◌<◌, ◌≤◌, arith, List, [], ◌∷◌, ◌++◌, length, get_or, sym, ap, ap₂, subst, refl, ◌∙◌, inl, inr}
use Rattle.std.specs.Prelude.{codes}
use Rattle.std.proofs.lemmas.List.{length-map}
use Rattle.lt_model.specs.Order.{simplex_cmp}
use Rattle.lt_model.specs.Atlases.{Entry, Mark, Atlas, entry_at, facets_of, opens, count, one_if_crossed, undecided}
use Rattle.lt_model.specs.Cones.{Row, Cone, IsRightCone, normals}
use Rattle.lt_model.specs.Limits.{weight}
use Rattle.lt_model.specs.Principal.{IsPrincipal, principal_numbers}
use Rattle.lt_model.proofs.Sets.{same_members, simplex_cmp_total}
use Rattle.lt_regulator.proofs.Distinct.{one_list}
use Rattle.lt_model.specs.RightAtlases.{fresh_atlas}
use Rattle.lt_core.specs.Starts.{first_entry}
use Rattle.lt_text.specs.Texts.{atlas_text}
use Rattle.lt_read.proofs.Read.{one_read}
use Rattle.ltypes.specs.Texts.{type_text}
use Rattle.ltypes.specs.Summaries.{header, entry_line, entry_summary, entry_summaries, summary_text, check_text, one_for_each}
use Rattle.ltypes.specs.Laws.{OnePrincipalText, OneStartingSummary, OneSummaryOfBytes, OneConversion}
use Rattle.ltypes.proofs.SameFacets.{one_facets}
use Rattle.ltypes.proofs.Summed.{same_totals}

-- the classes of the principal triangulation are one ascending list
one_principal : (d : ℕ) (t u : List (List (List ℤ))) → IsPrincipal d t → IsPrincipal d u → t ≡ u
one_principal d t u p q =
    same_members simplex_cmp simplex_cmp_total t u p.ascending q.ascending (λ s. (λ m. (q.members s).1 ((p.members s).0 m), λ m. (p.members s).1 ((q.members s).0 m)))

pub one_text : OnePrincipalText
one_text d x y p q = p.2 ∙ ap (λ t. type_text d (principal_numbers d) t) (one_principal d p.0 q.0 p.1 q.1) ∙ sym q.2

-- ---- the same counts

-- two entries have the same counts and the same weight
record AreAlike (e f : Entry) : Type 0 where
  classes : length e.triangulation ≡ length f.triangulation
  rows : length e.cone.rows ≡ length f.cone.rows
  walls : facets_of e.cone.rows ≡ facets_of f.cone.rows
  normal : normals e.cone.rows ≡ normals f.cone.rows

one_line : (d k : ℕ) (e f : Entry) (ms : List Mark) → AreAlike e f → entry_summary d k e ms ≡ entry_summary d k f ms
one_line d k e f ms a = line _ _ _ _ _ _ _ _ _ _ a.classes a.rows (ap (length {A = List ℤ}) a.walls) (ap (weight d) a.normal)
  where
    line : (n n' r r' w w' x x' c u : ℕ) → n ≡ n' → r ≡ r' → w ≡ w' → x ≡ x' → entry_line k n r w c u x ≡ entry_line k n' r' w' c u x'
    line n n' r r' w w' x x' c u p q s t =
        ap (λ (z : ℕ). entry_line k z r w c u x) p ∙ ap (λ (z : ℕ). entry_line k n' z w c u x) q ∙ ap (λ (z : ℕ). entry_line k n' r' z c u x) s ∙ ap (λ (z : ℕ). entry_line k n' r' w' c u z) t

record HaveOneSummary (a b : Atlas) : Type 0 where
  dimension : a.dimension ≡ b.dimension
  marks : a.marks ≡ b.marks
  count : length a.entries ≡ length b.entries
  each : (k : ℕ) → k < length a.entries → AreAlike (entry_at a.entries k) (entry_at b.entries k)

one_lines : (a b : Atlas) → HaveOneSummary a b → (n : ℕ) → n ≤ length a.entries → entry_summaries a n ≡ entry_summaries b n
one_lines a b h zero l = refl
one_lines a b h (suc n) l =
    let own : entry_summary a.dimension n (entry_at a.entries n) (get_or a.marks n []) ≡ entry_summary b.dimension n (entry_at b.entries n) (get_or b.marks n []) =
    one_line a.dimension n (entry_at a.entries n) (entry_at b.entries n) (get_or a.marks n []) (h.each n (omega arith))
    ∙ ap₂ (λ (d : ℕ) (ms : List (List Mark)). entry_summary d n (entry_at b.entries n) (get_or ms n [])) h.dimension h.marks
    in
    ap₂ (λ (x y : List ℕ). x ++ y) (one_lines a b h n (omega arith)) own

one_check : (a b : Atlas) → HaveOneSummary a b → check_text a ≡ check_text b
one_check a b h = same_totals (codes "ok types") _ _ _ _ _ _ _ _ h.count (ap (count one_for_each) h.marks) (ap (count one_if_crossed) h.marks) (ap undecided h.marks)

one_summary : (a b : Atlas) → HaveOneSummary a b → summary_text a ≡ summary_text b
one_summary a b h =
    ap₂ (λ (x y : List ℕ). header ++ x ++ y)
    (one_lines a b h (length a.entries) (omega arith) ∙ ap (entry_summaries b) h.count)
    (same_totals (codes "types") _ _ _ _ _ _ _ _ h.count (ap (count one_for_each) h.marks) (ap (count one_if_crossed) h.marks) (ap undecided h.marks))

-- ---- the starting atlas

abbrev fresh : ℕ → List (List (List ℤ)) → Cone → Atlas
fresh d t c = fresh_atlas d (first_entry t c ∷ []) (opens (length (facets_of c.rows)) ∷ [])

-- two right cones of one triangulation
alike_cones : (d : ℕ) (t : List (List (List ℤ))) (c e : Cone) → IsRightCone d t c → IsRightCone d t e → AreAlike (first_entry t c) (first_entry t e)
alike_cones d t c e h k =
    let ns : normals c.rows ≡ normals e.rows = one_list d t (normals c.rows) (normals e.rows) h.regulators k.regulators in record {
      classes = refl;
      rows = sym (length-map c.rows (λ (r : Row). r.normal)) ∙ ap (length {A = List ℤ}) ns ∙ length-map e.rows (λ (r : Row). r.normal);
      walls = one_facets d t c e h k;
      normal = ns;
    }

alike_starts : (d : ℕ) (t : List (List (List ℤ))) (c e : Cone) → IsRightCone d t c → IsRightCone d t e → HaveOneSummary (fresh d t c) (fresh d t e)
alike_starts d t c e h k =
    let alike = alike_cones d t c e h k in record {
      dimension = refl;
      marks = ap (λ (ns : List (List ℤ)). opens (length ns) ∷ []) alike.walls;
      count = refl;
      each = λ i l. let first : i ≡ 0 = omega arith in subst (λ (n : ℕ). AreAlike (entry_at (first_entry t c ∷ []) n) (entry_at (first_entry t e ∷ []) n)) (sym first) alike;
    }

pub one_start : OneStartingSummary
one_start d a b s r =
    let one = one_principal d r.triangulation s.triangulation r.principal s.principal in
    let cone = subst (λ (t : List (List (List ℤ))). IsRightCone d t r.cone) one r.right in
    ap summary_text s.atlas ∙ one_summary (fresh d s.triangulation s.cone) (fresh d s.triangulation r.cone) (alike_starts d s.triangulation s.cone r.cone s.right cone)
    ∙ ap (λ (t : List (List (List ℤ))). summary_text (fresh d t r.cone)) (sym one) ∙ sym (ap summary_text r.atlas)

-- ---- what is read

pub one_of_bytes : OneSummaryOfBytes
one_of_bytes d bytes a b r s = let same = one_read 2 d bytes a b (inr refl) r s in (ap summary_text same, ap check_text same)

pub one_conversion : OneConversion
one_conversion d bytes a b r s = ap atlas_text (one_read 1 d bytes a b (inl refl) r s)
