use Rattle.std.proofs.Common.{rules, arith, ◌≡◌, ◌∙◌, ◌∷◌, ap, ap₂, length, get_or, ℕ, List, ℤ, neg_ℤ, w8, FitsSigned}
use Rattle.std.specs.Bool.{◌==◌}
use Rattle.std.specs.List.{insert, remove}
use Rattle.std.proofs.lemmas.Bool.{false≢true}
use Rattle.std.proofs.lemmas.Int.{to_z-of_z}
use Rattle.lt_triang.specs.declared.walls.Wall.{Wall}
use Rattle.lt_triang.proofs.Mirrored.{places_within, numbers_mirrored}
use Rattle.lt_triang.proofs.walls.Wall.mirrored.Goals as goal

pub insert-requires : goal.insert-requires
insert-requires c =
    let w = c.args.self.now in
    let within = places_within w c.args.facet c.requires (λ none. false≢true (c.if-is_empty.ensures ∙ ap (λ (n : ℕ). n == 0) (ap length none))) in
    let all : length c.copy-numbers.result.numbers.items ≡ length w.numbers.items = ap (λ (v : Wall). length v.numbers.items) c.copy-numbers.ensures in
    (omega arith, (omega (arith, within.1, all, c.remove.ensures.len, c.remove-2.ensures.len, c.from.ensures), search rules))

pub returns-in-Ok-Ok : goal.returns-in-Ok-Ok
returns-in-Ok-Ok c =
    let w = c.args.self.now in
    let x = c.remove.result in
    let y = c.remove-2.result in
    let a = c.in_ok-scale.scale in
    let b = c.in_ok-turned.turned in
    let ys = c.remove-2.new.self.items in
    let fx : FitsSigned w8 x = search rules in
    let fy : FitsSigned w8 y = search rules in
    let fa : FitsSigned w8 a = search rules in
    let fb : FitsSigned w8 b = search rules in
    let ea : a ≡ neg_ℤ x = rw (to_z-of_z w8 x fx) at c.in_ok-scale.ensures.1 in
    let eb : b ≡ neg_ℤ y = rw (to_z-of_z w8 y fy) at c.in_ok-turned.ensures.1 in
    let ha : c.insert.new.self.items ≡ insert ys w.vertex a = rw (to_z-of_z w8 a fa, c.from.ensures) at c.insert.ensures.items in
    let hb : c.insert-2.new.self.items ≡ b ∷ c.insert.new.self.items = rw (to_z-of_z w8 b fb) at c.insert-2.ensures.items in
    numbers_mirrored w _ c.args.class c.args.facet c.remove.new.self.items ys x y c.requires (λ none. false≢true (c.if-is_empty.ensures ∙ ap (λ (n : ℕ). n == 0) (ap length none)))
    (c.remove.ensures.value ∙ ap (λ (v : Wall). get_or v.numbers.items 0 x) c.copy-numbers.ensures)
    (c.remove.ensures.items ∙ ap (λ (v : Wall). remove v.numbers.items 0) c.copy-numbers.ensures)
    c.remove-2.ensures.value c.remove-2.ensures.items c.in-Ok-Ok.ensures.1 c.in-Ok-Ok.ensures'.1
    (hb ∙ ap₂ (λ (z : ℤ) (l : List ℤ). z ∷ l) eb (ha ∙ ap (insert ys w.vertex) ea))
