use Rattle.std.proofs.Common.{arith, ◌≡◌, ◌∙◌, ◌+◌, ◌-◌, ◌/◌, ◌<◌, ◌≤◌, sym, ap, refl, subst, ℕ, List, ℤ, [], length, get_or}
use Rattle.std.specs.declared.cmp.Ordering.TheVariants.{Less, Equal, Greater}
use Rattle.std.specs.List.{Contains}
use Rattle.std.proofs.lemmas.Bool.{false≢true}
use Rattle.std.proofs.lemmas.List.Elements.{Contains-get_or}
use Rattle.lt_model.specs.Order.{simplex_cmp}
use Rattle.lt_triang.proofs.Tied.{equal_lists}
use Rattle.lt_match.proofs.Ordered.{below_at, above_at, not_among}
use Rattle.lt_match.proofs.images.is_member.Goals as goal

-- the half way is before the end
within : (low high n : ℕ) → low < high → high ≤ n → low + (high - low) / 2 < n
within low high n h k = omega arith

pub returns-in-Equal : goal.returns-in-Equal
returns-in-Equal c =
    let t = c.args.t.now in
    let m = c.loop-low.low + (c.loop-low.high - c.loop-low.low) / 2 in
    let e : simplex_cmp (get_or t m []) c.args.points.now ≡ Equal = sym (c.cmp.ensures ∙ ap (λ (v : List (List ℤ)). simplex_cmp v c.args.points.now) (c.vertices.ensures ∙ c.class.ensures)) ∙ c.in-Equal.is in
    let same : get_or t m [] ≡ c.args.points.now = equal_lists (get_or t m []) c.args.points.now e in
    let here : Contains t c.args.points.now = subst (λ (v : List (List ℤ)). Contains t v) same (Contains-get_or t m [] (within c.loop-low.low c.loop-low.high _ c.loop-low-test.true c.loop-low.invariant.bound)) in
    ((λ _. here), (λ _. refl))

pub loop-low-preserved-in-Less : goal.loop-low-preserved-in-Less
loop-low-preserved-in-Less c =
    let t = c.args.t.now in
    let m = c.loop-low.low + (c.loop-low.high - c.loop-low.low) / 2 in
    let e : simplex_cmp (get_or t m []) c.args.points.now ≡ Less = sym (c.cmp.ensures ∙ ap (λ (v : List (List ℤ)). simplex_cmp v c.args.points.now) (c.vertices.ensures ∙ c.class.ensures)) ∙ c.in-Less.is in
    let hm = within c.loop-low.low c.loop-low.high (length t) c.loop-low-test.true c.loop-low.invariant.bound in
    record { bound = c.loop-low.invariant.bound; below = λ n h. below_at t c.args.points.now m n c.requires hm e h; above = c.loop-low.invariant.above }

pub loop-low-preserved : goal.loop-low-preserved
loop-low-preserved c =
    let t = c.args.t.now in
    let m = c.loop-low.low + (c.loop-low.high - c.loop-low.low) / 2 in
    let e : simplex_cmp (get_or t m []) c.args.points.now ≡ Greater = sym (c.cmp.ensures ∙ ap (λ (v : List (List ℤ)). simplex_cmp v c.args.points.now) (c.vertices.ensures ∙ c.class.ensures)) ∙ c.in-Greater.is in
    let hm = within c.loop-low.low c.loop-low.high (length t) c.loop-low-test.true c.loop-low.invariant.bound in
    record { bound = omega (arith, hm); below = c.loop-low.invariant.below; above = λ n h hn. above_at t c.args.points.now m n c.requires e h hn }

pub returns : goal.returns
returns c = ((λ e. absurd (false≢true e)), (λ m. absurd (not_among c.args.t.now c.args.points.now c.loop-low.low c.loop-low.high (omega arith) c.loop-low.invariant.below c.loop-low.invariant.above m)))
