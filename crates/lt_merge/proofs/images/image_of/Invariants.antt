use Rattle.std.proofs.Common.{◌≡◌, drop, ◌++◌, get_or, [], ◌+◌, map}
use Rattle.std.specs.Int.{int_wrap, w128}
use Rattle.lt_model.specs.Flat.{rows}
use Rattle.lt_model.specs.Matrices.{apply}
use Rattle.lt_geometry.proofs.Induced.{products, induced}
use Rattle.lt_merge.proofs.images.image_of.Given as goal

abbrev pub invariant-loop-i : goal.invariant-loop-i
invariant-loop-i l =
    l.all.items ++ map (int_wrap w128) (apply (induced (drop l.i (rows l.d l.u))) l.normal) ≡ map (int_wrap w128) (apply (induced (rows l.d l.u)) l.normal)

abbrev pub invariant-loop-j : goal.invariant-loop-j
invariant-loop-j l =
    let u = rows l.d l.u in
    l.all.items ++ (map (int_wrap w128) (apply (map (products (get_or u l.i [])) (drop l.j u)) l.normal) ++ map (int_wrap w128) (apply (induced (drop (l.i + 1) u)) l.normal)) ≡ map (int_wrap w128) (apply (induced u) l.normal)
