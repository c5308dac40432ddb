use Rattle.std.proofs.Common.{arith, ◌≡◌, ◌<◌, ◌-◌, ◌∙◌, sym, ap, subst, length, get_or, [], ℕ, List, ℤ, Err}
use Rattle.lt_model.specs.Principal.{IsPrincipal}
use Rattle.lt_geometry.proofs.Neighbours.{principal_delaunay}
use Rattle.lt_triang.specs.Across.{IsOpenAnswer}
use Rattle.lt_triang.specs.Kept.{AreClasses}
use Rattle.lt_principal.specs.Paths.{points_of}
use Rattle.lt_principal.proofs.Members.{are_classes, some_member, first_length, same_principal, none_open}
use Rattle.lt_principal.proofs.triangulations.principal.Goals as goal

pub classes_with-requires : goal.classes_with-requires
classes_with-requires c = rw (c.from.ensures, c.as_slice.ensures.value) (are_classes c.args.d (points_of c.in_ok-points.points.items) c.requires.low c.requires.high c.in_ok-points.ensures)

pub of-requires-clause-occupied : goal.of-requires-clause-occupied
of-requires-clause-occupied c = rw (c.in_ok-classes.ensures, c.as_slice.ensures.value) (some_member c.args.d (points_of c.in_ok-points.points.items) c.in_ok-points.ensures)

pub of-requires-clause-classes : goal.of-requires-clause-classes
of-requires-clause-classes c =
    let given = points_of c.in_ok-points.points.items in
    rw (c.in_ok-classes.ensures, c.as_slice.ensures.value, first_length c.args.d given c.in_ok-points.ensures) (are_classes c.args.d given c.requires.low c.requires.high c.in_ok-points.ensures)

pub returns-in-Ok : goal.returns-in-Ok
returns-in-Ok c =
    let given = points_of c.in_ok-points.points.items in
    let same = rw (c.in_ok-classes.ensures, c.as_slice.ensures.value) at c.in-Ok.ensures.made in
    let p : IsPrincipal c.args.d c.in-Ok.triangulation = same_principal c.args.d c.in-Ok.triangulation given c.dimension-dimension.ensures.ascending c.in_ok-points.ensures same in
    record { principal = p; delaunay = principal_delaunay c.args.d c.in-Ok.triangulation (omega (arith, c.requires.low)) p }

pub unreachable-requires : goal.unreachable-requires
unreachable-requires c =
    let given = points_of c.in_ok-points.points.items in
    let answer = rw (c.in_ok-classes.ensures, c.as_slice.ensures.value, first_length c.args.d given c.in_ok-points.ensures) at (c.of.ensures.«open» c.in-Err-OpenFacet.field-0-0 c.in-Err-OpenFacet.field-0-1 (c.in-Err-OpenFacet.is ∙ ap Err c.in-Err-OpenFacet.field-0-is)) in
    none_open c.args.d given c.in-Err-OpenFacet.field-0-0 c.in-Err-OpenFacet.field-0-1 c.requires.low c.requires.high c.in_ok-points.ensures answer
