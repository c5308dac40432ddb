use Rattle.std.proofs.Common.{ℕ, List, subst}
use Rattle.lt_merge.specs.Refusals.{IsRefusal}
use Rattle.lt_merge.specs.declared.merging.MergeError.{MergeError}
use Rattle.lt_read.specs.Reading.{IsRead}
use Rattle.ltypes.specs.Merges.{IsPartUnread}
use Rattle.ltypes.proofs.Merging.{rest_of, second_unread}
use Rattle.ltypes.proofs.merges.merged.Goals as goal

pub returns-in-Err-read_part-clause-why : goal.returns-in-Err-read_part-clause-why
returns-in-Err-read_part-clause-why c =
    second_unread c.args.d c.args.bytes.now c.division_of-place.result c.in-Ok.first c.in-Err-read_part.cause c.division_of-place.ensures.division c.in-Ok.ensures.read
    (subst (λ (z : List ℕ). IsPartUnread c.args.d 2 z c.in-Err-read_part.cause) (rest_of c.args.bytes.now c.division_of-place.result) c.in-Err-read_part.ensures.why)

pub returns-in-Ok-merge-clause-merged : goal.returns-in-Ok-merge-clause-merged
returns-in-Ok-merge-clause-merged c = (
  c.division_of-place.result,
  c.in-Ok.first,
  c.in-Ok-read_part.second,
  record { division = c.division_of-place.ensures.division; first = c.in-Ok.ensures.read; second = subst (λ (z : List ℕ). IsRead 2 c.args.d z c.in-Ok-read_part.second) (rest_of c.args.bytes.now c.division_of-place.result) c.in-Ok-read_part.ensures.read },
  c.in-Ok-merge.ensures.merged,
)

pub returns-in-Err-Stuck-clause-why : goal.returns-in-Err-Stuck-clause-why
returns-in-Err-Stuck-clause-why c = (
  c.division_of-place.result,
  c.in-Ok.first,
  c.in-Ok-read_part.second,
  c.in-Err-Stuck._so_far,
  record { division = c.division_of-place.ensures.division; first = c.in-Ok.ensures.read; second = subst (λ (z : List ℕ). IsRead 2 c.args.d z c.in-Ok-read_part.second) (rest_of c.args.bytes.now c.division_of-place.result) c.in-Ok-read_part.ensures.read },
  subst (λ (e : MergeError). IsRefusal c.in-Ok.first c.in-Ok-read_part.second e) c.in-Err-Stuck.field-0-is c.in-Err-Stuck.ensures.refused,
)
