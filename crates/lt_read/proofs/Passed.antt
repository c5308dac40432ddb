-- The entries of the text of a right atlas have passed, and its crosses are right.
use Rattle.std.proofs.Common.{◌≡◌, ℕ, zero, suc, ℤ, ◌*◌, ◌<◌, sym, ap, ◌∙◌, subst, arith, List, [], map, length, get_or}
use Rattle.std.proofs.lemmas.List.{get_or-map, length-map}
use Rattle.std.proofs.lemmas.List.Elements.{All-from_recursion}
use Rattle.lt_model.specs.Cones.{Cone, IsRightCone}
use Rattle.lt_model.specs.Flat.{rows, flat}
use Rattle.lt_model.specs.Matrices.{identity, Carries, AreEquivalent}
use Rattle.lt_model.specs.Walls.{IsAcross}
use Rattle.lt_model.specs.Atlases as model
use Rattle.lt_model.specs.Atlases.{Classes, facets_of}
use Rattle.lt_model.specs.RightAtlases.{AreRight}
use Rattle.lt_model.proofs.Flat.{flat-rows}
use Rattle.lt_core.proofs.Recording.{cross_parts}
use Rattle.lt_core.proofs.Undo.{mark_within}
use Rattle.lt_grammar.specs.Texts.{Mark, open_mark, cross, wide, heavy, Entry}
use Rattle.lt_grammar.specs.Ranges.{MarkFits, EntriesFit}
use Rattle.lt_read.specs.Refused.{no_entry, entry_at, normals_of, normal_at, mark_at, at, HasOrigin, IsListed, HavePassed, AreCrossed, AreTwins, read_mark}
use Rattle.lt_read.specs.Built.{triangulations}
use Rattle.lt_read.specs.Reading.{IsEntryOf}
use Rattle.lt_read.proofs.Plain.{no_mark_is_cross}
use Rattle.lt_read.proofs.Counted.{entry_fits}

-- the entries of a text are those of an atlas, whose marks are read from it
pub record AreRead (version d : ℕ) (es : List Entry) (bs : List model.Entry) (ms : List (List model.Mark)) : Type 0 where
  pub count : length bs ≡ length es
  pub entries : (k : ℕ) → k < length es → IsEntryOf version (entry_at es k) (model.entry_at bs k)
  pub marks : ms ≡ map (λ e. map (read_mark d) e.marks) es

-- a mark that is read as a cross is one
read_cross : (d : ℕ) (m : Mark) (k : ℕ) (u : List (List ℤ)) → read_mark d m ≡ model.cross k u → (w : List ℤ) × (m ≡ cross k w) × (rows d w ≡ u)
read_cross d open_mark k u e = absurd (cc)
read_cross d (cross j v) k u e = let p = cross_parts j k (rows d v) u e in (v, ap (λ i. cross i v) p.0, p.1)
read_cross d (wide n s) k u e = absurd (cc)
read_cross d (heavy w) k u e = absurd (cc)

module _ (version d : ℕ) (es : List Entry) (bs : List model.Entry) (ms : List (List model.Mark)) (fits : EntriesFit d 0 es) (read : AreRead version d es bs ms) (h : AreRight (IsAcross d) d bs ms) where
  abbrev ts : List Classes
  ts = triangulations bs

  abbrev own : ℕ → Classes
  own k = (model.entry_at bs k).triangulation

  there : (k : ℕ) → k < length es → k < length bs
  there k l = let c = read.count in omega (arith, c, l)

  tri : (k : ℕ) → k < length es → at ts k ≡ own k
  tri k l = get_or-map (λ (b : model.Entry). b.triangulation) bs k model.no_entry [] (there k l)

  same_normals : (k : ℕ) → k < length es → model.facets (model.entry_at bs k) ≡ normals_of (entry_at es k)
  same_normals k l = ap (λ (c : Cone). facets_of c.rows) (read.entries k l).cone

  across : (p : ℕ × ℕ) (t : Classes) → p.0 < length es → IsAcross d (own p.0) (model.facet_at bs p) t → IsAcross d (at ts p.0) (normal_at es p) t
  across p t l x =
      let one = subst (λ (z : Classes). IsAcross d z (model.facet_at bs p) t) (sym (tri p.0 l)) x in
      subst (λ (ns : List (List ℤ)). IsAcross d (at ts p.0) (get_or ns p.1 []) t) (same_normals p.0 l) one

  marks_read : (k : ℕ) → k < length es → get_or ms k [] ≡ map (read_mark d) (entry_at es k).marks
  marks_read k l = ap (λ (xs : List (List model.Mark)). get_or xs k []) read.marks ∙ get_or-map (λ (e : Entry). map (read_mark d) e.marks) es k no_entry [] l

  -- the mark at a place of the text, as it is read
  mark_read : (p : ℕ × ℕ) → p.0 < length es → p.1 < length (entry_at es p.0).marks → model.mark_at ms p ≡ read_mark d (mark_at es p)
  mark_read p l s = ap (λ (xs : List model.Mark). get_or xs p.1 model.no_mark) (marks_read p.0 l) ∙ get_or-map (read_mark d) (entry_at es p.0).marks p.1 (heavy 0) model.no_mark s

  -- the place of a mark that is no sign of the end
  within : (p : ℕ × ℕ) (m : model.Mark) → model.mark_at ms p ≡ m → (m ≡ model.no_mark → ⊥) → (p.0 < length es) × (p.1 < length (entry_at es p.0).marks)
  within p m e n =
      let w = mark_within ms p m e n in
      let c = read.count in
      let k = h.lists in
      let l : p.0 < length es = (let a = w.0 in omega (arith, a, k, c)) in
      let s : p.1 < length (map (read_mark d) (entry_at es p.0).marks) = subst (λ (xs : List model.Mark). p.1 < length xs) (marks_read p.0 l) w.1 in
      (l, omega (arith, s, length-map (entry_at es p.0).marks (read_mark d)))

  mark_fits : (p : ℕ × ℕ) → p.0 < length es → p.1 < length (entry_at es p.0).marks → MarkFits d (mark_at es p)
  mark_fits p l s = All-from_recursion (MarkFits d) (entry_at es p.0).marks (entry_fits d 0 es p.0 p.0 fits l (omega arith)).1.1.1.1 p.1 (heavy 0) s

  -- a later entry has its origin, across which it lies
  pub came : (k : ℕ) → 0 < k → k < length es → (o : HasOrigin d es k) × IsAcross d (at ts o.parent) (normal_at es (o.parent, o.facet)) (own k)
  came k some l =
      let o = h.origins k some (there k l) in
      let p : ℕ × ℕ = (o.parent, o.facet) in
      let before : o.parent < k = o.earlier in
      let here : o.parent < length es = omega (arith, before, l) in
      let place = within p (model.cross k (identity d)) o.mark (no_mark_is_cross k (identity d)) in
      let c = read_cross d (mark_at es p) k (identity d) (sym (mark_read p place.0 place.1) ∙ o.mark) in
      let square : length c.0 ≡ d * d = (subst (MarkFits d) c.1 (mark_fits p place.0 place.1)).1.0 in
      let from : HasOrigin d es k = record {
        parent = o.parent;
        facet = o.facet;
        named = sym ((read.entries k l).origin) ∙ o.named;
        earlier = o.earlier;
        within = subst (λ (ns : List (List ℤ)). o.facet < length ns) (same_normals o.parent here) o.within;
        mark = c.1 ∙ ap (cross k) (sym (flat-rows d c.0 square) ∙ ap flat c.2);
      } in
      (from, across p (own k) here o.across)

  pub listed : (k : ℕ) → k < length es → IsListed version d es ts k (own k)
  listed zero l = (h.start, (read.entries 0 l).listed)
  listed (suc k) l =
      let c = came (suc k) (omega arith) l in
      (c.0, c.1, (h.entries (suc k) (there (suc k) l)).narrow, (read.entries (suc k) l).listed)

  pub right_cone : (k : ℕ) → k < length es → IsRightCone d (own k) (entry_at es k).cone
  right_cone k l = subst (IsRightCone d (own k)) (read.entries k l).cone (h.entries k (there k l)).cone

  pub passed : HavePassed version d es ts (length es)
  passed = record {
    long = length-map bs (λ (b : model.Entry). b.triangulation) ∙ read.count;
    listed = λ k l. subst (λ (z : Classes). IsListed version d es ts k z) (sym (tri k l)) (listed k l);
    cones = λ k l. subst (λ (z : Classes). IsRightCone d z (entry_at es k).cone) (sym (tri k l)) (right_cone k l);
  }

  pub crossed : AreCrossed d es ts
  crossed p l s k u e =
      let x = h.crosses p k (rows d u) (mark_read p l s ∙ ap (read_mark d) e) in
      let c = read.count in
      let here : k < length bs = x.present in
      let k_there : k < length es = omega (arith, c, here) in
      (k_there, (x.across, across p x.across l x.is_across, x.narrow, subst (λ (z : Classes). Carries d (rows d u) x.across z) (sym (tri k k_there)) x.carries))

  pub no_twins : (p : ℕ × ℕ) → AreTwins d ts p → ⊥
  no_twins p (lt, within, x) =
      let c = read.count in
      let m = length-map bs (λ (b : model.Entry). b.triangulation) in
      let lj : p.1 < length es = omega (arith, within, c, m) in
      let li : p.0 < length es = omega (arith, lj, lt) in
      let one = subst (λ (z : Classes). AreEquivalent d z (at ts p.1)) (tri p.0 li) x in
      h.apart p.0 p.1 (there p.0 li) (there p.1 lj) (λ e. omega (arith, e, lt)) (subst (AreEquivalent d (own p.0)) (tri p.1 lj) one)
