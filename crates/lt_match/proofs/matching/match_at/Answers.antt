use Rattle.std.proofs.Common.{arith, ◌≡◌, ◌*◌, ◌∙◌, ℕ, ℤ, List, [], length, get_or, sym, ap, subst}
use Rattle.std.specs.Prelude.{Option, Some, None, MatchOption, not}
use Rattle.std.proofs.lemmas.Bool.{false≢true}
use Rattle.std.specs.Cmp.Rules.{signed_items}
use Rattle.lt_model.specs.Flat.{rows}
use Rattle.lt_match.specs.Matches.{HasNoMatch, BeginsWith, IsFirstOrder}
use Rattle.lt_match.proofs.Selected.{no_match, are_signed}
use Rattle.lt_match.proofs.Firsts.{HasNone}
use Rattle.lt_match.proofs.matching.match_at.Goals as goal

-- every order begins with no numbers
told : (d : ℕ) (t t2 : List (List (List ℤ))) (n : ℕ) (s : List (List ℤ)) (r : Option (List ℤ)) → s ≡ get_or t2 n [] →
    MatchOption r ((p : List ℕ) → BeginsWith [] p → HasNoMatch d t t2 s p) (λ u. (length u ≡ d * d) × IsFirstOrder d t t2 s [] (rows d u)) → MatchOption r (HasNone d t t2 n) (λ u. (length u ≡ d * d) × IsFirstOrder d t t2 (get_or t2 n []) [] (rows d u))
told d t t2 n s None e h = λ q. subst (λ (z : List (List ℤ)). HasNoMatch d t t2 z q) e (h q (λ i l. absurd (omega arith)))
told d t t2 n s (Some u) e h = (h.0, subst (λ (z : List (List ℤ)). IsFirstOrder d t t2 z [] (rows d u)) e h.1)

pub search-requires-clause-signed : goal.search-requires-clause-signed
search-requires-clause-signed c =
    rw (c.as_slice-2.ensures.value, c.vertices-s.ensures, c.class.ensures)
    (are_signed c.args.d c.args.from.now c.args.to.now c.args.n c.args.first.now c.facet_signatures-facets.result.items c.requires.origin c.requires.target c.requires.delaunay c.requires.delaunay_too c.requires.place c.requires.facets c.facet_signatures-facets.ensures)

pub returns : goal.returns
returns c = told c.args.d c.args.from.now c.args.to.now c.args.n c.vertices-s.result.now c.search.result (c.vertices-s.ensures ∙ c.class.ensures) c.search.ensures

pub returns-then-ne : goal.returns-then-ne
returns-then-ne c =
    let a : List ℤ = c.args.own.now in
    let b : List ℤ = c.short_class_signature-signature.result.items in
    let differ : b ≡ a → ⊥ = λ e. false≢true (sym (c.if-ne.ensures ∙ ap not ((signed_items c.as_slice.result.now a).1 (c.as_slice.ensures.value ∙ e)))) in
    no_match c.args.d c.args.from.now c.args.to.now c.args.n a b c.requires.origin c.requires.target c.requires.delaunay c.requires.delaunay_too c.requires.place c.requires.signature c.short_class_signature-signature.ensures differ
