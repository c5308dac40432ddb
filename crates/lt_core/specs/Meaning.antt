-- What the fields of an atlas mean.
use Rattle.std.specs.Prelude.{map, vec_capacity}
use Rattle.lt_model.specs.Atlases as model
use Rattle.lt_core.specs.declared.atlas.Atlas.TheInside.{Inside}
use Rattle.lt_core.specs.Marks.{marks_of, event_of, entry_of}
use Rattle.lt_core.specs.Prints.{ArePrints}
use Rattle.lt_core.specs.Sound.{IsSound}

-- what the fields mean
abbrev pub value_of : Inside → model.Atlas
value_of a = record {
  dimension = a.dimension;
  entries = map entry_of a.entries.items;
  marks = marks_of a.marks.items;
  queue = map (λ p. (p.0, p.1)) a.queue.items;
  log = map event_of a.log.items;
}

abbrev pub IsSoundInside : Inside → Type 0
IsSoundInside a = IsSound (value_of a) a.undecided a.stuck (vec_capacity a.log)

-- its value is sound, and the fingerprints are those of the entries
pub record KeepsAtlas (a : Inside) : Type 0 where
  pub sound : IsSoundInside a
  pub prints : ArePrints a.dimension (map entry_of a.entries.items) a.prints.items
